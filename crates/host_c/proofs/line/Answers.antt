-- `host_c::line` meets its contract: both lengths, then the line writer. Assumes nothing.
use mathlib.Core.List.{◌∷◌}
use lib.ListN.{length}
use Rattle.std.proofs.lemmas.Result.{err_from_is_err_and}
use Rattle.table.specs.Entries.{record_width}
use Rattle.rules.specs.Config.{block_size}
use Rattle.rules.specs.Line.{line}
use Rattle.lines.specs.Lines.{line_refusals}
use Rattle.host_c.specs.Coded.{not_long}
use Rattle.host_c.proofs.Lengths.{refused-length, past-length}
use Rattle.host_c.proofs.line.Goals as goal

pub returns-in_err-sighted : goal.returns-in_err-sighted
returns-in_err-sighted c =
    let p = err_from_is_err_and c.from_residual.result c.from_residual.ensures.1 in
    rw (p.1, p.2) (refused-length record_width c.args.sighted.now _ _ c.args.out.now _ c.in_err-sighted.ensures)

pub returns-in_err-block : goal.returns-in_err-block
returns-in_err-block c =
    let a = c.args in
    let p = err_from_is_err_and c.from_residual-in_err-block.result c.from_residual-in_err-block.ensures.1 in
    let text = line a.block.now a.sighted.now in
    let tests = line_refusals a.block.now text (length a.out.now) in
    let u = past-length record_width a.sighted.now (not_long block_size a.block.now ∷ tests) text a.out.now c.in_ok-sighted.sighted c.in_ok-sighted.ensures in
    rw (u.1, p.1, p.2) (refused-length block_size a.block.now tests text a.out.now _ c.in_err-block.ensures)

pub returns : goal.returns
returns c =
    let a = c.args in
    let text = line a.block.now a.sighted.now in
    let tests = line_refusals a.block.now text (length a.out.now) in
    let u = past-length record_width a.sighted.now (not_long block_size a.block.now ∷ tests) text a.out.now c.in_ok-sighted.sighted c.in_ok-sighted.ensures in
    let v = past-length block_size a.block.now tests text a.out.now c.in_ok-block.block c.in_ok-block.ensures in
    rw (u.1, v.1) (rw (u.0, v.0) at c.line.ensures)
