-- `digits::decimal::put_decimal` meets its contract. With the i digits that are left put before them, the digits written so far are the number. Assumes nothing.
use mathlib.Core.Path.{refl, sym, ◌∙◌}
use native.Mathlib.Omega.{arith}
use lib.ListN.{length-set}
use Rattle.digits.specs.Digits.{decimal_of}
use Rattle.digits.proofs.Decimals.{decimal-length, last_none, last_more}
use Rattle.digits.proofs.decimal.put_decimal.Goals as goal

pub loop-i-init : goal.loop-i-init
unfolding decimal_of
loop-i-init c = (refl, rw c.places-k.ensures.0)

pub loop-i-preserved : goal.loop-i-preserved
loop-i-preserved c =
    let l = c.loop-i in
    (simp length-set l.invariant.0, sym (last_more _ l.i l.left l.out (omega arith)) ∙ l.invariant.1)

pub returns : goal.returns
returns c =
    let l = c.loop-i in
    let a = c.args in (
      omega arith,
      c.places-k.ensures.0 ∙ sym (decimal-length a.n),
      sym (last_none a.at l.i l.left l.out (omega arith)) ∙ l.invariant.1,
    )
