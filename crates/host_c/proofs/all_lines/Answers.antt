-- `host_c::all_lines` meets its contract: the length of the block, then the line writer. Assumes nothing.
use lib.ListN.{length}
use Rattle.std.proofs.lemmas.Result.{err_from_is_err_and}
use Rattle.rules.specs.Config.{block_size}
use Rattle.lines.specs.Lines.{lines_of, lines_refusals}
use Rattle.host_c.proofs.Lengths.{refused-length, past-length}
use Rattle.host_c.proofs.all_lines.Goals as goal

pub returns-in_err-block : goal.returns-in_err-block
returns-in_err-block c =
    let p = err_from_is_err_and c.from_residual.result c.from_residual.ensures.1 in
    rw (p.1, p.2) (refused-length block_size c.args.block.now _ _ c.args.out.now _ c.in_err-block.ensures)

pub returns : goal.returns
returns c =
    let a = c.args in
    let text = lines_of a.block.now a.sent.now in
    let v = past-length block_size a.block.now (lines_refusals a.block.now a.sent.now (length a.out.now)) text a.out.now c.in_ok-block.block c.in_ok-block.ensures in
    rw v.1 (rw v.0 at c.lines.ensures)
