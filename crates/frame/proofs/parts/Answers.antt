-- `frame::parts` meets its contract: in each arm the kind is known, and the constructor of that kind makes the frame. Assumes nothing.
use Prim.Native.Nat.{ℕ, ◌+◌, ◌-◌}
use mathlib.Core.Path.{◌≡◌, ◌∙◌}
use mathlib.Core.List.{List}
use lib.ListN.{length, get_or}
use Rattle.frame.specs.declared.Kind.{Kind}
use Rattle.frame.specs.declared.Way.{Way}
use Rattle.frame.specs.declared.Frame.{Frame}
use Rattle.frame.specs.Shape.{shape_of, overhead, frame_with}
use Rattle.frame.specs.Judged.{kind_of, parts_of}
use Rattle.frame.proofs.parts.Goals as goal

-- the frame that is made where k is known to be j
made : (w : Way) (f : List ℕ) (k j : Kind) (lead over : ℕ) {r : Frame} → k ≡ kind_of f → lead ≡ (shape_of k).lead → over ≡ overhead w k → k ≡ j
    → r ≡ frame_with w j (get_or f lead 0) (get_or f (lead + 1) 0) (length f - over) → r ≡ parts_of w f
unfolding parts_of
made w f k j lead over is l o same e = e ∙ rw (← same, l, o, is)

pub returns-in-Standard : goal.returns-in-Standard
returns-in-Standard c =
    made _ _ _ _ _ _ c.requires.0 c.lead-lead.ensures c.overhead.ensures c.in-Standard.is c.frame.ensures

pub returns-in-Advanced : goal.returns-in-Advanced
returns-in-Advanced c =
    made _ _ _ _ _ _ c.requires.0 c.lead-lead.ensures c.overhead.ensures c.in-Advanced.is c.frame-in-Advanced.ensures
