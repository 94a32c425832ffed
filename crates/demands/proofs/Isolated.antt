-- Demand 3: what a desk hears of a history goes by its own events alone. Assumes nothing.
use Rattle.std.specs.Prelude.{Result}
use Prim.Native.Nat.{ℕ, ◌≤◌, ◌<◌}
use mathlib.Core.Path.{◌≡◌, refl, sym, ap, ap₂, subst, ◌∙◌}
use mathlib.Core.Bool.{Bool, true, false, cond}
use mathlib.Core.List.{List, [], ◌∷◌}
use mathlib.Core.Option.{Option, none, some}
use native.Mathlib.Omega.{arith}
use lib.ListN.{length, take}
use lib.Seq.{take_at}
use borrow.Author.Tests.{ltb-false}
use Rattle.table.specs.Entries.{desks}
use Rattle.frame.specs.declared.Refusal.{Refusal}
use Rattle.frame.specs.Shape.{reply_room}
use Rattle.octets.specs.Tests.{first, all_of}
use Rattle.octets.proofs.Tests.{none-head, and_left, and_right}
use Rattle.octets.proofs.Puts.{put_front}
use Rattle.rules.specs.Box.{Box, fresh_box, desk_at, frame, sighting, tick, Answer as RuleAnswer, refused, reply, seen, ok, AtDesk, request, served, sighted, placed, unless_refused, frame_refusals, sighting_refusals, step, run}
use Rattle.rules.specs.Events.{concerns, history, answers_of}
use Rattle.rules.specs.Legal.{fitting}
use Rattle.rules.proofs.Facts.{BoxLegal, Fitting, fitting-facts}
use Rattle.rules.proofs.Legality.{fresh-facts, desk-in-box, step-facts}
use Rattle.rules.proofs.Isolation.{isolation}
use Rattle.store.specs.View.{view}
use Rattle.events.specs.declared.Answer.{Answer}
use Rattle.depot.proofs.Short.{Brief, served-brief}
use Rattle.demands.specs.History.{Call, event_of, lent_to, Deed, events_of, History}
use Rattle.demands.specs.History as calls
use Rattle.demands.specs.Answers.{Gave, GaveAll, heard, heard_of, heard_by}
use Rattle.demands.proofs.Steps.{Led, lived}

-- ---- a reply fits in the output that was lent

unless-reply : (o : Option ℕ) (box : Box) (n : ℕ) (a : AtDesk) (t : List ℕ) → (unless_refused o box (placed box n a)).answer ≡ reply t → (o ≡ none) × (a.answer ≡ reply t)
unfolding unless_refused placed
unless-reply none box n a t e = (refl, e)
unless-reply (some r) box n a t e = let z : ◌≡◌ {A = ℕ} 0 1 = cc in absurd (omega arith)

module _ (box : Box) (legal : BoxLegal box) where
  frame-fits : (f : List ℕ) (room : ℕ) (t : List ℕ) → (step box (frame f room)).answer ≡ reply t → length t ≤ room
  unfolding step frame_refusals
  frame-fits f room t e =
      let n = (request f).address in
      let u = unless-reply (first (frame_refusals f room)) box n (served f (desk_at box n)) t e in
      let brief : length t ≤ reply_room = subst Brief u.1 (served-brief f (desk_at box n) (desk-in-box box n legal)) in
      omega (arith, ltb-false room reply_room (none-head _ _ _ u.0))

  sighting-fits : (n uid mask : ℕ) (t : List ℕ) → (step box (sighting n uid mask)).answer ≡ reply t → ⊥
  unfolding step sighted
  sighting-fits n uid mask t e =
      let u = (unless-reply (first (sighting_refusals n mask)) box n (sighted uid mask (desk_at box n)) t e).1 in
      let z : ◌≡◌ {A = ℕ} 0 1 = cc in
      omega arith

  tick-fits : (t : List ℕ) → (step box tick).answer ≡ reply t → ⊥
  unfolding step
  tick-fits t e = let z : ◌≡◌ {A = ℕ} 0 1 = cc in omega arith

  call_fits : (c : Call) (t : List ℕ) → (step box (event_of c)).answer ≡ reply t → length t ≤ length (lent_to c)
  call_fits (calls.frame f out) t e = frame-fits f (length out) t e
  call_fits (calls.sighting n uid mask) t e = absurd (sighting-fits n uid mask t e)
  call_fits calls.tick t e = absurd (tick-fits t e)

-- ---- what is heard of one call, and of all

heard-is : (t : RuleAnswer) (d : Deed) → Gave t d → ((x : List ℕ) → t ≡ reply x → length x ≤ length (lent_to d.call)) → heard_of d ≡ t
heard-is (refused n) d g fits = ap (λ (a : Result Answer Refusal). heard a d.output) g.0.answer-is ∙ ap refused g.0.number_is
heard-is (reply t) d g fits =
    ap₂ heard g.0 g.1
    ∙ ap reply (ap (take (length t)) (put_front t (lent_to d.call) (fits t refl)) ∙ take_at t _ (length t) refl)
heard-is (seen w) d g fits = ap (λ (a : Result Answer Refusal). heard a d.output) g.0
heard-is ok d g fits = ap (λ (a : Result Answer Refusal). heard a d.output) g.0

module _ (n : ℕ) where
  heard-cond : (b : Bool) (x t : RuleAnswer) (xs ts : List RuleAnswer) → x ≡ t → xs ≡ ts → cond b (x ∷ xs) xs ≡ cond b (t ∷ ts) ts
  heard-cond true x t xs ts p q = ap₂ ◌∷◌ p q
  heard-cond false x t xs ts p q = q

  heard_all : (ds : List Deed) (box : Box) → BoxLegal box → all_of fitting (events_of ds) ≡ true → GaveAll (run box (events_of ds)) ds
      → heard_by n ds ≡ answers_of n box (events_of ds)
  unfolding heard_by answers_of run GaveAll all_of
  heard_all [] box legal typed g = refl
  heard_all (d ∷ ds) box legal typed g =
      let e = event_of d.call in
      let fit : Fitting e = fitting-facts e (and_left (fitting e) (all_of fitting (events_of ds)) typed) in
      heard-cond (concerns n e) (heard_of d) (step box e).answer _ _
      (heard-is (step box e).answer d g.0 (call_fits box legal d.call))
      (heard_all ds (step box e).box (step-facts box e legal fit) (and_right (fitting e) (all_of fitting (events_of ds)) typed) g.1)

pub heard-of-desk : (n : ℕ) (ds : List Deed) (s : List ℕ) → History ds s → heard_by n ds ≡ answers_of n fresh_box (events_of ds)
heard-of-desk n ds s h = heard_all n ds fresh_box fresh-facts h.typed (lived ds s h).gave

-- two histories whose events for a desk are equal: it hears the same, and the same is kept for it
pub isolated : (n : ℕ) → n < desks → (ds ds' : List Deed) (s s' : List ℕ) → History ds s → History ds' s' → history n (events_of ds) ≡ history n (events_of ds')
    → (heard_by n ds ≡ heard_by n ds') × (desk_at (view s) n ≡ desk_at (view s') n)
isolated n low ds ds' s s' h h' same =
    let one : Led fresh_box ds s = lived ds s h in
    let two : Led fresh_box ds' s' = lived ds' s' h' in
    let both = isolation n low (events_of ds) (events_of ds') same in (
      heard-of-desk n ds s h ∙ both.0 ∙ sym (heard-of-desk n ds' s' h'),
      ap (λ (b : Box). desk_at b n) one.says ∙ both.1 ∙ sym (ap (λ (b : Box). desk_at b n) two.says),
    )
