-- `pieces::put_raw` meets its contract. Assumes nothing.
use Prim.Native.Nat.{◌+◌}
use mathlib.Core.Path.{◌≡◌, refl, ap, ◌∙◌}
use native.Mathlib.Omega.{arith}
use lib.ListN.{length, set, get_or, take}
use lib.Seq.{take_all}
use Rattle.octets.specs.Parts.{put}
use Rattle.octets.proofs.Puts.{put-length, put-more}
use Rattle.pieces.proofs.put_raw.Goals as goal

pub loop-i-init : goal.loop-i-init
unfolding put
loop-i-init c = (refl, refl)

pub loop-i-preserved : goal.loop-i-preserved
loop-i-preserved c =
    let a = c.args in
    let l = c.loop-i in
    let e : set l.out (a.at + l.i) (get_or a.s.now l.i 0) ≡ put a.at (take (l.i + 1) a.s.now) a.out.now =
    rw l.invariant.1 (put-more a.at l.i a.s.now a.out.now (omega arith)) in
    (ap length e ∙ put-length _ _ _, e)

pub returns : goal.returns
returns c =
    let l = c.loop-i in
    (refl, l.invariant.1 ∙ rw (take_all l.i c.args.s.now (omega arith)))
