-- `possible::records_may` meets its contract. Assumes nothing.
use Prim.Native.Nat.{◌+◌, ◌*◌, ◌^◌, ◌≤◌, ◌<◌, min}
use mathlib.Core.Path.{◌≡◌}
use lib.Dec.{lit<}
use native.Mathlib.Omega.{arith}
use borrow.Author.Tests.{eq-eqb, lt-ltb, le-leb}
use Rattle.table.specs.Entries.{record_width, share}
use Rattle.rules.specs.Records.{most_sent}
use Rattle.rules.proofs.Counts.{records-bound}
use Rattle.possible.specs.Possible.{records_may}
use Rattle.possible.proofs.records_may.Goals as goal

pub overflow_mul-n : goal.overflow_mul-n
overflow_mul-n c = omega (arith, records-bound _ _ (2 ^ 64) c.records_for-n.ensures c.ranges.len.fits (lit< tt))

pub overflow_add-n : goal.overflow_add-n
overflow_add-n c = record { fits = records-bound _ _ (2 ^ 64) c.records_for-n.ensures c.ranges.len.fits (lit< tt) }

-- the check finds this alone too; so said, an edit falls at the bound
pub returns-then-n-fit : goal.returns-then-n-fit
unfolding records_may
returns-then-n-fit c =
    let n = c.records_for-n.result in
    let whole : c.args.len ≡ 2 + n * record_width = omega arith in
    let some : 0 < n = omega arith in
    let asked : n ≤ min c.args.k share = omega arith in
    let room : n ≤ most_sent c.args.kind = omega arith in
    rw (← c.records_for-n.ensures, eq-eqb _ _ whole, lt-ltb 0 n some, le-leb _ _ asked, le-leb _ _ room, ← c.held_for-wanted.ensures, ← c.most_sent-fit.ensures.0) c.status_may.ensures
