-- `locklegal::all_differ` meets its contract. Assumes nothing.
use Rattle.std.proofs.Common.{◌≡◌, false, refl, sym, drop, get_or, ◌-◌}
use Rattle.locks.proofs.Lookups.{none}
use Rattle.locks.specs.Locks.{locked}
use Rattle.locklegal.proofs.Covering.{uncovered, looked, behind_none, stands_behind, behind_more}
use Rattle.locklegal.proofs.all_differ.Goals as goal
use Rattle.locklegal.proofs.all_differ.Goals.{else-taken-bucket-via-then-taken-bucket+else-is_some, else-taken-bucket-via-else-taken-bucket}

pub loop-i-init : goal.loop-i-init
loop-i-init c = behind_none _ c.args.locks.now refl

pub returns-then-is_some : goal.returns-then-is_some
returns-then-is_some c =
    let l = c.loop-i in
    let s = c.args.locks.now in
    sym (stands_behind s l.i none c.loop-i-test.true l.auto.i (looked s l.i none c.loop-i-test.true l.auto.i _ _ _ c.find.ensures c.is_some.ensures c.if-is_some.true))

pub loop-i-preserved : goal.loop-i-preserved
loop-i-preserved c =
    let l = c.loop-i in
    let s = c.args.locks.now in
    let more = λ (alone : locked (get_or s (l.i - 1) none).uid (drop l.i s) ≡ false).
    behind_more s l.i none c.loop-i-test.true l.auto.i l.taken _ c.bucket_of-bucket.ensures alone l.invariant in
    elim c.else-taken-bucket.branch [
      | else-taken-bucket-via-then-taken-bucket+else-is_some w ↦ more (looked s l.i none c.loop-i-test.true l.auto.i _ _ _ w.find.ensures w.is_some.ensures w.if-is_some.false)
      | else-taken-bucket-via-else-taken-bucket w ↦
          more (uncovered l.taken _ _ l.invariant.2 (rw c.bucket_of-bucket.ensures at w.if-taken-bucket.false))
    ]
