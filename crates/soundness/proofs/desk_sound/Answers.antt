-- `soundness::desk_sound` meets its contract. Assumes nothing.
use native.Mathlib.Omega.{arith}
use lib.Dec.{lit<}
use Rattle.store.specs.Layout.{rows_area}
use Rattle.store.proofs.Places.{fine-facts}
use Rattle.store.proofs.LentAreas.{row-lent}
use Rattle.soundness.proofs.desk_sound.Goals as goal

pub slice_bounds-row_sound-end : goal.slice_bounds-row_sound-end
slice_bounds-row_sound-end c = omega (arith, (fine-facts _ c.requires.2).within rows_area (lit< tt))

pub returns : goal.returns
returns c =
    rw (← row-lent c.args.s.now c.args.d c.row_at-at.result c.requires.0 c.row_at-at.ensures.0) c.row_sound.ensures
