-- `soundness::mark_right` meets its contract. Assumes nothing.
use mathlib.Core.Path.{refl}
use borrow.Author.Tests.{eq-eqb, ne_eqb}
use Rattle.store.specs.Rows.{mark_field}
use Rattle.store.proofs.FieldOctets.{field-octet}
use Rattle.soundness.proofs.mark_right.Goals as goal

pub returns-then-row-ne1 : goal.returns-then-row-ne1
returns-then-row-ne1 c = rw (field-octet c.args.row.now mark_field refl, ne_eqb _ _ c.if-row-ne1.true)

pub returns-else-row-ne1 : goal.returns-else-row-ne1
returns-else-row-ne1 c = rw (field-octet c.args.row.now mark_field refl, eq-eqb _ _ c.if-row-ne1.false) refl
