-- `fields::put` meets its contract: the room, then what was told. Assumes nothing.
use mathlib.Core.Path.{◌≡◌, ap}
use lib.ListN.{length, length-take}
use native.Mathlib.Omega.{arith}
use Rattle.std.proofs.lemmas.Result.{err_from_is_err_and}
use Rattle.octets.proofs.Lent.{put_over}
use Rattle.fields.proofs.Told.{no_room_lem, not-told, told}
use Rattle.fields.proofs.put.Goals as goal

pub returns-then-out : goal.returns-then-out
returns-then-out g c = λ ts t e. no_room_lem _ ts t c.args.out.now (omega (arith, c.if-out.true))

pub returns-in_err-numbers : goal.returns-in_err-numbers
returns-in_err-numbers g c = λ ts t e.
    let p = err_from_is_err_and c.from_residual.result c.from_residual.ensures.1 in
    rw (p.1, p.2) (not-told g.row.N ts t c.args.out.now (omega (arith, c.if-out.false)) c.in_err-numbers.field-0.0 (rw c.in_err-numbers.was at e))

pub returns : goal.returns
returns g c = λ ts t e.
    let size : g.row.N ≡ length c.in_ok-numbers.numbers =
    omega (arith, c.if-out.false, ap length c.copy_from_slice.ensures.after, c.copy_from_slice.ensures.len, length-take g.row.N c.args.out.now) in
    told g.row.N ts t c.args.out.now (omega (arith, c.if-out.false)) c.in_ok-numbers.numbers _ (rw c.in_ok-numbers.was at e) size
    (put_over 0 g.row.N _ c.in_ok-numbers.numbers c.args.out.now c.copy_from_slice.ensures.after size (omega (arith, c.if-out.false)))
