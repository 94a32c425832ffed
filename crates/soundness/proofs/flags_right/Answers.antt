-- `soundness::flags_right` meets its contract. Assumes nothing.
use mathlib.Core.Path.{refl}
use borrow.Author.Tests.{le-leb, lt-leb}
use Rattle.store.specs.Rows.{login_field, mark_field}
use Rattle.store.specs.Sound.{flags_right}
use Rattle.store.proofs.FieldOctets.{field-octet}
use Rattle.soundness.proofs.flags_right.Goals as goal

pub returns-then-row-le1 : goal.returns-then-row-le1
unfolding flags_right
returns-then-row-le1 c =
    let row = c.args.row.now in
    rw (field-octet row login_field refl, field-octet row mark_field refl, le-leb _ _ c.if-row-le1.true) refl

pub returns-else-row-le1 : goal.returns-else-row-le1
unfolding flags_right
returns-else-row-le1 c = rw (field-octet c.args.row.now login_field refl, lt-leb _ _ c.if-row-le1.false)
