-- `digits::read::decode` meets its contract. After i turns the first i octets are written. Assumes nothing.
use mathlib.Core.Path.{refl, ap, ◌∙◌}
use native.Mathlib.Omega.{arith}
use lib.ListN.{length}
use Rattle.octets.specs.Parts.{put}
use Rattle.octets.proofs.Puts.{put-length}
use Rattle.digits.proofs.Values.{octets-more}
use Rattle.digits.proofs.read.decode.Goals as goal

pub loop-i-init : goal.loop-i-init
unfolding put
loop-i-init c = (refl, refl)

pub loop-i-preserved : goal.loop-i-preserved
loop-i-preserved c =
    let a = c.args in
    let e = octets-more a.s.now a.to.now c.loop-i.to c.loop-i.i _ _ (omega arith) c.loop-i.invariant.1 c.value.ensures.0 c.value-in-loop-i.ensures.0 in
    (ap length e ∙ put-length _ _ _, e)
