-- Demand 1 of the box: whatever the store, the octets and the numbers, the answer is of the event's kind or the first refusal of its list,
-- and a refused call writes nothing. Assumes nothing.
use Rattle.std.specs.Prelude.{Result, Err}
use Prim.Native.Nat.{ℕ}
use mathlib.Core.Path.{◌≡◌, refl, sym, ap, ◌∙◌}
use mathlib.Core.Bool.{Bool, true, false, cond, not}
use mathlib.Core.List.{List}
use mathlib.Core.Option.{Option, none, some}
use native.Mathlib.Omega.{arith}
use Rattle.octets.specs.Tests.{first}
use Rattle.frame.specs.declared.Refusal.{Refusal}
use Rattle.frame.specs.Refusal.{number_of}
use Rattle.rules.specs.Box.{Box, Event, frame, sighting, tick, Answer as RuleAnswer, refused, reply, seen, ok, Step, served, sighted, placed, unless_refused, frame_refusals, sighting_refusals, step}
use Rattle.store.specs.View.{view}
use Rattle.store.specs.Sound.{sound}
use Rattle.events.specs.declared.Answer.{Answer}
use Rattle.events.specs.Happened.{Ended}
use Rattle.depot.specs.Called.{step_on, Called, test_refusals}
use Rattle.demands.specs.Answers.{heard, number_heard, refusals_of, tests_of, of_its_kind}

-- ---- the number that is heard is the first of the event's list that is given; where none is, none is heard

unless-number : (o : Option ℕ) (box : Box) (st : Step) → number_heard st.answer ≡ none → number_heard (unless_refused o box st).answer ≡ o
unfolding unless_refused
unless-number none box st h = h
unless-number (some n) box st h = refl

step-number : (box : Box) (e : Event) → number_heard (step box e).answer ≡ first (refusals_of e)
unfolding step placed refusals_of
step-number box (frame f room) = unless-number (first (frame_refusals f room)) box _ (unfold served in refl)
step-number box (sighting m uid mask) = unless-number (first (sighting_refusals m mask)) box _ (unfold sighted in refl)
step-number box tick = unfold first in refl

on-number : (s : List ℕ) (e : Event) → number_heard (step_on s e).answer ≡ first (tests_of s e)
unfolding step_on first tests_of test_refusals
on-number s e = go (sound s)
  where
    go : (b : Bool) → number_heard (cond b (step (view s) e) record { answer = refused 1; box = view s }).answer ≡ cond (not b) (some 1) (first (refusals_of e))
    go true = step-number (view s) e
    go false = refl

module _ (box : Box) (s out : List ℕ) (a : Result Answer Refusal) (s' out' : List ℕ) where
  abbrev here : Result Answer Refusal → Option ℕ
  here x = number_heard (heard x out')

  ended-number : (t : RuleAnswer) → Ended t box s out a s' out' → number_heard (heard a out') ≡ number_heard t
  ended-number (refused n) p = ap here p.0.answer-is ∙ ap some p.0.number_is
  ended-number (reply t) p = ap here p.0
  ended-number (seen w) p = ap here p.0
  ended-number ok p = ap here p.0

  -- a refused call writes nothing
  ended-kept : (t : RuleAnswer) (r : Refusal) → a ≡ Err r → Ended t box s out a s' out' → (s' ≡ s) × (out' ≡ out)
  ended-kept (refused n) r e p = p.1
  ended-kept (reply t) r e p = let z : ◌≡◌ {A = ℕ} 0 1 = cc in absurd (omega arith)
  ended-kept (seen w) r e p = let z : ◌≡◌ {A = ℕ} 0 1 = cc in absurd (omega arith)
  ended-kept ok r e p = let z : ◌≡◌ {A = ℕ} 0 1 = cc in absurd (omega arith)

module _ (e : Event) (s out : List ℕ) (a : Result Answer Refusal) (s' out' : List ℕ) (c : Called e s out a s' out') where
  pub first-heard : number_heard (heard a out') ≡ first (tests_of s e)
  first-heard = ended-number (step_on s e).box s out a s' out' (step_on s e).answer c.ended ∙ on-number s e

  pub refused-first : (r : Refusal) → a ≡ Err r → (first (tests_of s e) ≡ some (number_of r)) × (s' ≡ s) × (out' ≡ out)
  refused-first r q =
      let kept = ended-kept (step_on s e).box s out a s' out' (step_on s e).answer r q c.ended in
      (sym first-heard ∙ ap (λ (x : Result Answer Refusal). number_heard (heard x out')) q, kept.0, kept.1)

-- ---- every other answer is of the event's kind

unless-kind : (e : Event) (o : Option ℕ) (box : Box) (st : Step) → of_its_kind e st.answer ≡ true → of_its_kind e (unless_refused o box st).answer ≡ true
unfolding unless_refused of_its_kind
unless-kind e none box st h = h
unless-kind e (some n) box st h = refl

step-kind : (box : Box) (e : Event) → of_its_kind e (step box e).answer ≡ true
unfolding step placed
step-kind box (frame f room) = unless-kind (frame f room) (first (frame_refusals f room)) box _ (unfold served of_its_kind in refl)
step-kind box (sighting m uid mask) = unless-kind (sighting m uid mask) (first (sighting_refusals m mask)) box _ (unfold sighted of_its_kind in refl)
step-kind box tick = unfold of_its_kind in refl

on-kind : (s : List ℕ) (e : Event) → of_its_kind e (step_on s e).answer ≡ true
unfolding step_on
on-kind s e = go (sound s)
  where
    go : (b : Bool) → of_its_kind e (cond b (step (view s) e) record { answer = refused 1; box = view s }).answer ≡ true
    go true = step-kind (view s) e
    go false = unfold of_its_kind in refl

module _ (box : Box) (s out : List ℕ) (a : Result Answer Refusal) (s' out' : List ℕ) where
  ended-kind : (e : Event) (t : RuleAnswer) → Ended t box s out a s' out' → of_its_kind e t ≡ of_its_kind e (heard a out')
  unfolding of_its_kind
  ended-kind e (refused n) p = rw p.0.answer-is
  ended-kind (frame f room) (reply t) p = rw p.0
  ended-kind (frame f room) (seen w) p = rw p.0
  ended-kind (frame f room) ok p = rw p.0
  ended-kind (sighting m uid mask) (reply t) p = rw p.0
  ended-kind (sighting m uid mask) (seen w) p = rw p.0
  ended-kind (sighting m uid mask) ok p = rw p.0
  ended-kind tick (reply t) p = rw p.0
  ended-kind tick (seen w) p = rw p.0
  ended-kind tick ok p = rw p.0

pub always-of-kind : (e : Event) (s out : List ℕ) (a : Result Answer Refusal) (s' out' : List ℕ) → Called e s out a s' out' → of_its_kind e (heard a out') ≡ true
always-of-kind e s out a s' out' c = sym (ended-kind (step_on s e).box s out a s' out' e (step_on s e).answer c.ended) ∙ on-kind s e
