-- `soundness::contents_sound` meets its contract: after d turns the first d rows are tested. Assumes nothing.
use mathlib.Core.Path.{◌≡◌, refl, sym}
use native.Mathlib.Omega.{arith}
use lib.Dec.{lit<}
use lib.ListN.{length-take, length-drop}
use Rattle.std.specs.Prelude.{Some}
use Rattle.octets.proofs.Every.{every-none, every_more, every-false, every-end}
use Rattle.table.specs.Entries.{desks, records_of, Counted}
use Rattle.store.specs.Layout.{entries_area, areas}
use Rattle.store.specs.View.{rows_in, in_use}
use Rattle.store.proofs.Places.{fine-facts}
use Rattle.store.proofs.LentAreas.{entries-lent}
use Rattle.soundness.proofs.Contents.{desk_sound, contents-is, records-of}
use Rattle.std.proofs.Common.{◌∙◌}
use Rattle.soundness.proofs.contents_sound.Goals as goal
use Rattle.soundness.proofs.contents_sound.Goals.{After-census, After-desk_sound, In-Some}

pub slice_bounds-census-end : goal.slice_bounds-census-end
slice_bounds-census-end c = omega (arith, (fine-facts _ c.requires.1).within entries_area (lit< tt))

pub census-requires : goal.census-requires
census-requires c =
    let f = fine-facts _ c.requires.1 in
    simp (length-take, length-drop) (omega (arith, f.within entries_area (lit< tt), f.used), omega (arith, f.used))

-- the count is of the entries in use
counted : (c : After-census) → Counted (in_use c.args.s.now) c.census.result
counted c =
    rw (← entries-lent c.args.s.now _ _ c.start-at.ensures.0 c.used-n.ensures.0) c.census.ensures

pub returns-in_default : goal.returns-in_default
returns-in_default c = rw (contents-is _, rw c.in_default.is at (counted (goal.at.returns-in_default c).After-census)) refl

-- every owner is a desk, and so many records are each one's
each : (c : In-Some) → Counted (in_use c.args.s.now) (Some c.in-Some.counts)
each c = rw c.in-Some.is at (counted (goal.at.In-Some c).After-census)

-- what was told of desk d
desk : (c : After-desk_sound) → let s = c.args.s.now in c.desk_sound.result ≡ desk_sound (rows_in (areas s)) (in_use s) c.loop-d.d
desk c =
    c.desk_sound.ensures.told (records_of c.loop-d.d (in_use c.args.s.now))
    (sym ((each (goal.at.After-desk_sound c).In-Some).1 c.loop-d.d (omega arith)))
    (records-of _ c.requires.0 (fine-facts _ c.requires.1) (λ i. (c.type_inv.s i).fits) c.loop-d.d)

pub loop-d-init : goal.loop-d-init
loop-d-init c = every-none _

pub returns-then-not-desk_sound : goal.returns-then-not-desk_sound
returns-then-not-desk_sound c =
    let g = goal.at.returns-then-not-desk_sound c in
    rw (contents-is _, (each g.In-Some).0) (sym (every-false desks _ c.loop-d.d (omega arith) (sym (desk g.After-desk_sound) ∙ c.if-not-desk_sound.true)))

pub loop-d-preserved : goal.loop-d-preserved
loop-d-preserved c =
    every_more c.loop-d.d _ c.loop-d.invariant (sym (desk (goal.at.loop-d-preserved c).After-desk_sound) ∙ c.if-not-desk_sound.false)

pub returns : goal.returns
returns c =
    rw (contents-is _, (each (goal.at.returns c).In-Some).0) (sym (every-end desks _ c.loop-d.d c.loop-d.invariant (omega arith)))
