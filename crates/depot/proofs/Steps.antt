-- On a sound store a call leaves a sound store that says the rules' next box; a fresh store says the fresh box. Assumes nothing.
use Rattle.std.specs.Prelude.{Result, Ok}
use Prim.Native.Nat.{ℕ}
use mathlib.Core.Path.{◌≡◌, refl, sym, ap, ◌∙◌}
use mathlib.Core.Bool.{true}
use mathlib.Core.List.{List}
use mathlib.Core.Option.{Option, none, some}
use native.Mathlib.Omega.{arith}
use Rattle.frame.specs.declared.Refusal.{Refusal}
use Rattle.octets.specs.Tests.{first}
use Rattle.rules.specs.Box.{Box, fresh_box, desk_at, Event, frame, sighting, tick, Answer as RuleAnswer, refused, reply, seen, ok, AtDesk, request, served, sighted, placed, unless_refused, frame_refusals, sighting_refusals, step}
use Rattle.store.specs.View.{view}
use Rattle.store.specs.Sound.{sound}
use Rattle.fresh.specs.Fresh.{fresh_store}
use Rattle.views.proofs.FreshBox.{fresh-sound, fresh-view}
use Rattle.events.specs.declared.Answer.{Answer}
use Rattle.events.specs.declared.Answer.TheVariants.{Done}
use Rattle.events.specs.Happened.{Next, Ended}
use Rattle.depot.specs.Called.{step_on, Called, fresh_refusals, MadeOf, Made}

-- ---- a refused event changes nothing, in the rules

keeps-unless : (o : Option ℕ) (box : Box) (n : ℕ) (a : AtDesk) (r : ℕ) → ((x : ℕ) → a.answer ≡ refused x → ⊥)
    → (unless_refused o box (placed box n a)).answer ≡ refused r → (unless_refused o box (placed box n a)).box ≡ box
unfolding unless_refused placed
keeps-unless none box n a r never e = absurd (never r e)
keeps-unless (some x) box n a r never e = refl

refused-keeps : (box : Box) (e : Event) (r : ℕ) → (step box e).answer ≡ refused r → (step box e).box ≡ box
unfolding step
refused-keeps box (frame f room) r e =
    keeps-unless (first (frame_refusals f room)) box (request f).address (served f (desk_at box (request f).address)) r
    (λ x q. unfold served in let z : ◌≡◌ {A = ℕ} 0 1 = cc in omega arith) e
refused-keeps box (sighting n uid mask) r e =
    keeps-unless (first (sighting_refusals n mask)) box n (sighted uid mask (desk_at box n)) r
    (λ x q. unfold sighted in let z : ◌≡◌ {A = ℕ} 0 1 = cc in omega arith) e
refused-keeps box tick r e = let z : ◌≡◌ {A = ℕ} 0 1 = cc in absurd (omega arith)

-- ---- a call

pub record Left (box : Box) (s' : List ℕ) : Type 0 where
  pub still : sound s' ≡ true
  pub says : view s' ≡ box

-- of a call that is not refused
pub next-left : (box : Box) (s s' : List ℕ) → Next box s s' → Left box s'
next-left box s s' p = record { still = p.still; says = p.says }

module _ (s out : List ℕ) (a : Result Answer Refusal) (s' out' : List ℕ) (q : sound s ≡ true) where
  by_answer : (t : RuleAnswer) (box : Box) → ((r : ℕ) → t ≡ refused r → box ≡ view s) → Ended t box s out a s' out' → Left box s'
  by_answer (refused r) box keep e = record { still = ap sound e.1.0 ∙ q; says = ap view e.1.0 ∙ sym (keep r refl) }
  by_answer (reply t) box keep e = next-left box s s' e.2
  by_answer (seen w) box keep e = next-left box s s' e.2
  by_answer ok box keep e = next-left box s s' e.2

  -- what the call made of the rules' step
  pub ended-sound : (e : Event) → Called e s out a s' out' → Ended (step (view s) e).answer (step (view s) e).box s out a s' out'
  unfolding step_on
  ended-sound e c = rw q at c.ended

  pub left-sound : (e : Event) → Called e s out a s' out' → Left (step (view s) e).box s'
  left-sound e c = by_answer (step (view s) e).answer (step (view s) e).box (refused-keeps (view s) e) (ended-sound e c)

-- ---- a fresh store

fresh-is : (buffer s : List ℕ) → Made buffer (Ok Done) s → s ≡ fresh_store
fresh-is buffer s m = go (first (fresh_refusals buffer)) m.made
  where
    go : (o : Option ℕ) → MadeOf o buffer (Ok Done) s → s ≡ fresh_store
    go none x = x.1
    go (some n) x = let z : ◌≡◌ {A = ℕ} 0 1 = cc x.0.answer-is in absurd (omega arith)

pub fresh-left : (buffer s : List ℕ) → Made buffer (Ok Done) s → Left fresh_box s
fresh-left buffer s m = let e = fresh-is buffer s m in record { still = ap sound e ∙ fresh-sound; says = ap view e ∙ fresh-view }
