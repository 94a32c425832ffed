-- `soundness::locks_right` meets its contract. Assumes nothing.
use mathlib.Core.Path.{refl}
use lib.ListN.{get_or, length-take, length-drop}
use native.Mathlib.Omega.{arith}
use borrow.Author.Tests.{lt-leb}
use Rattle.octets.specs.Parts.{part}
use Rattle.locks.specs.Locks.{most_locks, locks_legal}
use Rattle.lockarea.proofs.Stored.{locks-in-length}
use Rattle.store.specs.Rows.{valid_field, count_field, field, count_at}
use Rattle.store.proofs.FieldOctets.{field-octet, field-pair}
use Rattle.soundness.proofs.locks_right.Goals as goal

pub returns-then-n-gt-MOST_LOCKS : goal.returns-then-n-gt-MOST_LOCKS
unfolding locks_legal
returns-then-n-gt-MOST_LOCKS c =
    let row = c.args.row.now in
    rw (field-octet row count_field refl, locks-in-length, lt-leb (get_or row count_at 0) most_locks (omega arith))

pub overflow_cast-n : goal.overflow_cast-n
overflow_cast-n c = omega (arith, c.fits-row count_at)

pub returns : goal.returns
unfolding field part
returns c =
    let row = c.args.row.now in
    rw (field-pair row valid_field refl, field-octet row count_field refl, ← c.get16.ensures) c.legal.ensures

pub legal-requires : goal.legal-requires
legal-requires c = (omega arith, simp (length-take, length-drop) (omega arith))
