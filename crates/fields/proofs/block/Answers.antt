-- `fields::block` meets its contract: the room, then what was told. Assumes nothing.
use mathlib.Core.Path.{◌≡◌, sym, ap, ◌∙◌}
use lib.ListN.{length}
use Rattle.octets.specs.Tests.{first}
use Rattle.frame.proofs.Finding.{finding-found}
use native.Mathlib.Omega.{arith}
use Rattle.std.proofs.lemmas.Result.{err_from_is_err_and}
use Rattle.rules.specs.Config.{block_size}
use Rattle.typed.specs.Typed.{other_length, block_told}
use Rattle.typed.proofs.Telling.{length-is}
use Rattle.fields.proofs.Told.{no_room_lem, not-told, told}
use Rattle.fields.proofs.block.Goals as goal

pub returns-then-out-lt-BLOCK : goal.returns-then-out-lt-BLOCK
returns-then-out-lt-BLOCK c = no_room_lem block_size (other_length block_size c.args.sent.now) c.args.sent.now c.args.out.now (omega (arith, c.if-out-lt-BLOCK.true))

pub returns-in_err-bytes : goal.returns-in_err-bytes
unfolding block_told
returns-in_err-bytes c =
    let p = err_from_is_err_and c.from_residual.result c.from_residual.ensures.1 in
    rw (p.1, p.2) (not-told block_size (other_length block_size c.args.sent.now) c.args.sent.now c.args.out.now (omega (arith, c.if-out-lt-BLOCK.false)) c.in_err-bytes.field-0.0 c.in_err-bytes.ensures)

pub returns : goal.returns
unfolding block_told
returns c =
    let s = c.args.sent.now in
    let said = c.in_ok-bytes.ensures in
    let size : block_size ≡ length c.in_ok-bytes.bytes =
    sym (ap length (finding-found (first (other_length block_size s)) s c.in_ok-bytes.bytes said).1 ∙ length-is block_size s c.in_ok-bytes.bytes said) in
    told block_size (other_length block_size s) s c.args.out.now (omega (arith, c.if-out-lt-BLOCK.false)) c.in_ok-bytes.bytes _ said size c.copy_to.ensures
