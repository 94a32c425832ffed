-- `table::held` meets its contract: after i turns the first i entries are counted. Assumes nothing.
use mathlib.Core.Path.{◌≡◌, refl}
use native.Mathlib.Numerals.{add-one}
use native.Mathlib.Omega.{arith}
use mathlib.Core.List.{[], ◌∷◌}
use lib.ListN.{length-append}
use Rattle.octets.specs.Parts.{rows}
use Rattle.octets.proofs.Rows.{rows_snoc, rows-length}
use Rattle.table.specs.Entries.{width, entries, entry_at, records_of}
use Rattle.table.proofs.Desks.{records_of-append, records_of-length}
use Rattle.table.proofs.held.Goals as goal

pub loop-i-init : goal.loop-i-init
unfolding rows records_of
loop-i-init c = refl

pub overflow_add-c : goal.overflow_add-c
overflow_add-c c =
    let s = c.args in
    omega (
      arith,
      records_of-length s.d (entries c.loop-i.i s.t.now),
      rows-length c.loop-i.i width s.t.now,
      records_of-length s.d (entry_at c.loop-i.i s.t.now ∷ []),
    )

pub loop-i-preserved : goal.loop-i-preserved
loop-i-preserved c =
    let i = c.loop-i.i in
    rw (add-one i, rows_snoc, records_of-append, length-append) (omega arith)

pub returns : goal.returns
returns c =
    let past : c.loop-i.i ≡ c.args.n = omega arith in
    rw (← past) c.loop-i.invariant
