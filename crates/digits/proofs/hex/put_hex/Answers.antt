-- `digits::hex::put_hex` meets its contract. After i turns the digits of the first i octets are written. Assumes nothing.
use mathlib.Core.Path.{refl, ap, ◌∙◌}
use native.Mathlib.Omega.{arith}
use lib.ListN.{length}
use Rattle.octets.specs.Parts.{put}
use Rattle.rules.specs.Line.{hex}
use Rattle.octets.proofs.Puts.{put-length}
use Rattle.digits.proofs.Pairs.{hex-more}
use Rattle.digits.proofs.hex.put_hex.Goals as goal

pub loop-i-init : goal.loop-i-init
unfolding put hex
loop-i-init c = (refl, refl)

pub loop-i-preserved : goal.loop-i-preserved
loop-i-preserved c =
    let a = c.args in
    let e = hex-more a.at c.loop-i.i a.s.now a.out.now c.loop-i.out _ _ (omega arith) c.loop-i.invariant.1 c.digit_of.ensures c.digit_of-in-loop-i.ensures in
    (ap length e ∙ put-length _ _ _, e)
