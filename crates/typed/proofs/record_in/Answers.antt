-- `typed::record_in` meets its contract. Assumes nothing.
use Prim.Native.Nat.{◌+◌, ◌*◌, ◌≤◌, ◌<◌}
use mathlib.Core.Path.{refl}
use native.Mathlib.Omega.{arith}
use lib.ListN.{length}
use Rattle.table.specs.Entries.{record_width}
use Rattle.rules.specs.Records.{records_for}
use Rattle.rules.proofs.Counts.{record-inside}
use Rattle.typed.proofs.Telling.{beyond, no-records, record-told}
use Rattle.std.proofs.Common.{sym, ◌∙◌}
use Rattle.typed.proofs.record_in.Goals as goal
use Rattle.typed.proofs.record_in.Goals.{Else-i-records_for}

-- it is not beyond the last
here : (c : Else-i-records_for) → c.args.i < records_for (length c.args.sent.now)
here c = omega (arith, c.records_for.ensures, c.if-i-records_for.false)

-- so it lies in the data
inside : (c : Else-i-records_for) → 2 + c.args.i * record_width + record_width ≤ length c.args.sent.now
inside c = record-inside (length c.args.sent.now) (records_for (length c.args.sent.now)) c.args.i refl (here c)

pub returns-then-i-records_for : goal.returns-then-i-records_for
returns-then-i-records_for c = beyond _ _ (omega (arith, c.records_for.ensures, c.if-i-records_for.true))

pub returns-then-not-is_read_data : goal.returns-then-not-is_read_data
returns-then-not-is_read_data c = no-records _ _ (here (goal.at.returns-then-not-is_read_data c).Else-i-records_for) (sym c.is_read_data.ensures ∙ c.if-not-is_read_data.true)

pub returns : goal.returns
returns c =
    record-told _ _ (here (goal.at.returns c).Else-i-records_for) (sym c.is_read_data.ensures ∙ c.if-not-is_read_data.false) _ _ _ _ refl
    c.number.ensures c.read.ensures refl

pub overflow_mul-at : goal.overflow_mul-at
overflow_mul-at c = omega (arith, inside (goal.at.overflow_mul-at c).Else-i-records_for)

pub overflow_add-at : goal.overflow_add-at
overflow_add-at c = omega (arith, inside (goal.at.overflow_add-at c).Else-i-records_for)

pub number-requires : goal.number-requires
number-requires c = omega (arith, inside (goal.at.number-requires c).Else-i-records_for)

pub overflow_add-at-2 : goal.overflow_add-at-2
overflow_add-at-2 c = omega (arith, inside (goal.at.overflow_add-at-2 c).Else-i-records_for)

pub read-requires : goal.read-requires
read-requires c = omega (arith, inside (goal.at.read-requires c).Else-i-records_for)

pub overflow_add-result : goal.overflow_add-result
overflow_add-result c = omega (arith, inside (goal.at.overflow_add-result c).Else-i-records_for)

pub bounds-sent-at : goal.bounds-sent-at
bounds-sent-at c = omega (arith, inside (goal.at.bounds-sent-at c).Else-i-records_for)
