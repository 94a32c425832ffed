-- One call after the other: on a sound store each gives the rules' answer and leaves a sound store that says the rules' next box.
-- Assumes nothing.
use Prim.Native.Nat.{ℕ}
use mathlib.Core.Path.{◌≡◌, ap, ◌∙◌, subst}
use mathlib.Core.Bool.{true}
use mathlib.Core.List.{List, [], ◌∷◌}
use Rattle.rules.specs.Box.{Box, fresh_box, Answer as RuleAnswer, refused, reply, seen, ok, Step, step, run, after}
use Rattle.store.specs.View.{view}
use Rattle.store.specs.Sound.{sound}
use Rattle.events.specs.Happened.{Ended}
use Rattle.depot.specs.Called.{Called}
use Rattle.depot.proofs.Steps.{Left, ended-sound, left-sound, fresh-left}
use Rattle.demands.specs.History.{event_of, lent_to, Deed, events_of, Ran, History}
use Rattle.demands.specs.Answers.{Gave, GaveAll}

-- ---- one call

-- the rules' step, and what the call made of it
pub record Stepped (st : Step) (d : Deed) (s' : List ℕ) : Type 0 where
  pub left : Left st.box s'
  pub gave : Gave st.answer d

gave-by : (d : Deed) (s s' : List ℕ) (t : RuleAnswer) (box : Box) → Ended t box s (lent_to d.call) d.answer s' d.output → Gave t d
gave-by d s s' (refused r) box e = (e.0, e.1.1)
gave-by d s s' (reply t) box e = (e.0, e.1)
gave-by d s s' (seen w) box e = (e.0, e.1)
gave-by d s s' ok box e = (e.0, e.1)

pub stepped : (d : Deed) (s s' : List ℕ) → sound s ≡ true → Called (event_of d.call) s (lent_to d.call) d.answer s' d.output → Stepped (step (view s) (event_of d.call)) d s'
stepped d s s' q c =
    let e = event_of d.call in
    record {
      left = left-sound s (lent_to d.call) d.answer s' d.output q e c;
      gave = gave-by d s s' (step (view s) e).answer (step (view s) e).box (ended-sound s (lent_to d.call) d.answer s' d.output q e c);
    }

-- ---- any calls

pub record Led (box : Box) (ds : List Deed) (s'' : List ℕ) : Type 0 where
  pub still : sound s'' ≡ true
  pub says : view s'' ≡ after box (events_of ds)
  pub gave : GaveAll (run box (events_of ds)) ds

pub led : (ds : List Deed) (s s'' : List ℕ) → sound s ≡ true → Ran s ds s'' → Led (view s) ds s''
unfolding Ran run after GaveAll
led [] s s'' q e = record { still = ap sound e ∙ q; says = ap view e; gave = tt }
led (d ∷ ds) s s'' q (s', c, r) =
    let one : Stepped (step (view s) (event_of d.call)) d s' = stepped d s s' q c in
    let rest : Led (step (view s) (event_of d.call)).box ds s'' = subst (λ (b : Box). Led b ds s'') one.left.says (led ds s' s'' one.left.still r) in
    record { still = rest.still; says = rest.says; gave = (one.gave, rest.gave) }

-- ---- from a fresh store

pub lived : (ds : List Deed) (s : List ℕ) → History ds s → Led fresh_box ds s
lived ds s h =
    let l = fresh-left h.buffer h.fresh h.made in
    subst (λ (b : Box). Led b ds s) l.says (led ds h.fresh s l.still h.ran)
