-- `removals::remove` meets its contract: those due go. Assumes nothing.
use native.Mathlib.Omega.{arith}
use mathlib.Core.Path.{refl}
use Rattle.keeping.proofs.Rows.{kept-legal}
use Rattle.removals.proofs.Removals.{close-legal, fewer-bare, removed-done}
use Rattle.removals.proofs.remove.Goals as goal

pub act-requires : goal.act-requires
act-requires c =
    (c.requires, close-legal _ (kept-legal _ c.requires _ c.args.d.low) _ (omega arith))

pub remove_first-requires : goal.remove_first-requires
remove_first-requires c =
    (c.act.ensures.still, rw (fewer-bare _ c.requires _ c.args.d.low _ c.marks_of-m.ensures _ c.act.ensures))

pub returns : goal.returns
returns c =
    removed-done _ c.requires _ c.args.d.low _ c.marks_of-m.ensures _ c.act.ensures _ _ _ c.plain.ensures c.remove_first.ensures refl
