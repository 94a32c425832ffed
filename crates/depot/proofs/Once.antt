-- Two outcomes that one promise allows are equal: the answer, the output's octets, and what the store says. Assumes nothing.
use Rattle.std.specs.Prelude.{Result, Err}
use mathlib.Core.Path.{◌≡◌, refl, sym, ap, subst, ◌∙◌}
use mathlib.Core.List.{List}
use mathlib.Core.Option.{Option, none, some}
use Prim.Native.Nat.{ℕ}
use Rattle.rules.specs.Box.{Box, Event, Answer as RuleAnswer, refused, reply, seen, ok, Step}
use Rattle.store.specs.View.{view}
use Rattle.frame.specs.declared.Refusal.{Refusal}
use Rattle.frame.proofs.Numbers.{refuses-once}
use Rattle.octets.specs.Tests.{first}
use Rattle.store.specs.Sound.{sound}
use Rattle.events.specs.declared.Answer.{Answer}
use Rattle.events.specs.Happened.{Next, Ended}
use Rattle.depot.specs.Called.{step_on, Called, test_refusals, TestedOf, Tested, fresh_refusals, MadeOf, Made}

-- two stores that say the same: both are sound or neither is, and they say one box
pub record AsOne (s u : List ℕ) : Type 0 where
  pub sounds : sound s ≡ sound u
  pub views : view s ≡ view u

pub record Same (a b : Result Answer Refusal) (out out' s s' : List ℕ) : Type 0 where
  pub answers : a ≡ b
  pub outputs : out ≡ out'
  pub stores : AsOne s s'

pub kept-once : (s u s' u' : List ℕ) → AsOne s u → s' ≡ s → u' ≡ u → AsOne s' u'
kept-once s u s' u' one p q = record { sounds = ap sound p ∙ one.sounds ∙ sym (ap sound q); views = ap view p ∙ one.views ∙ sym (ap view q) }

next-once : (box : Box) (s u s' u' : List ℕ) → Next box s s' → Next box u u' → AsOne s' u'
next-once box s u s' u' p q = record { sounds = p.still ∙ sym q.still; views = p.says ∙ sym q.says }

module _ (box : Box) (s u out : List ℕ) (a b : Result Answer Refusal) (s' u' out' out'' : List ℕ) (one : AsOne s u) where
  ended-once : (t : RuleAnswer) → Ended t box s out a s' out' → Ended t box u out b u' out'' → Same a b out' out'' s' u'
  ended-once (refused n) p q =
      record { answers = refuses-once Err n a b p.0 q.0; outputs = p.1.1 ∙ sym q.1.1; stores = kept-once s u s' u' one p.1.0 q.1.0 }
  ended-once (reply t) p q = record { answers = p.0 ∙ sym q.0; outputs = p.1 ∙ sym q.1; stores = next-once box s u s' u' p.2 q.2 }
  ended-once (seen w) p q = record { answers = p.0 ∙ sym q.0; outputs = p.1 ∙ sym q.1; stores = next-once box s u s' u' p.2 q.2 }
  ended-once ok p q = record { answers = p.0 ∙ sym q.0; outputs = p.1 ∙ sym q.1; stores = next-once box s u s' u' p.2 q.2 }

-- from two stores that say the same
steps-once : (s u : List ℕ) (e : Event) → AsOne s u → step_on u e ≡ step_on s e
unfolding step_on
steps-once s u e one = rw (one.sounds, one.views)

pub once-as-one : (e : Event) (s u out : List ℕ) (a b : Result Answer Refusal) (s' u' out' out'' : List ℕ) → AsOne s u → Called e s out a s' out' → Called e u out b u' out'' → Same a b out' out'' s' u'
once-as-one e s u out a b s' u' out' out'' one p q =
    ended-once (step_on s e).box s u out a b s' u' out' out'' one (step_on s e).answer p.ended
    (subst (λ (x : Step). Ended x.answer x.box u out b u' out'') (steps-once s u e one) q.ended)

pub once : (e : Event) (s out : List ℕ) (a b : Result Answer Refusal) (s' s'' out' out'' : List ℕ) → Called e s out a s' out' → Called e s out b s'' out'' → Same a b out' out'' s' s''
once e s out a b s' s'' out' out'' p q = once-as-one e s s out a b s' s'' out' out'' (record { sounds = refl; views = refl }) p q

-- a fresh store is one list of octets
pub made-once : (s : List ℕ) (a b : Result Answer Refusal) (s' s'' : List ℕ) → Made s a s' → Made s b s'' → (a ≡ b) × (s' ≡ s'')
made-once s a b s' s'' p q = go (first (fresh_refusals s)) p.made q.made
  where
    go : (o : Option ℕ) → MadeOf o s a s' → MadeOf o s b s'' → (a ≡ b) × (s' ≡ s'')
    go none x y = (x.0 ∙ sym y.0, x.1 ∙ sym y.1)
    go (some n) x y = (refuses-once Err n a b x.0 y.0, x.1 ∙ sym y.1)

-- a store is sound, or it is not
pub tested-once : (s : List ℕ) (a b : Result Answer Refusal) → Tested s a → Tested s b → a ≡ b
tested-once s a b p q = go (first (test_refusals s)) p.tested q.tested
  where
    go : (o : Option ℕ) → TestedOf o a → TestedOf o b → a ≡ b
    go none x y = x ∙ sym y
    go (some n) x y = refuses-once Err n a b x y
