-- Over any calls, one after the other, the areas lie where they lay and the octets outside them are as they were: only `fresh` writes these.
-- Assumes nothing.
use Prim.Native.Nat.{ℕ}
use mathlib.Core.List.{List, [], ◌∷◌}
use Rattle.store.specs.Untouched.{Untouched}
use Rattle.store.proofs.Untouched.{untouched-same, untouched-then}
use Rattle.depot.proofs.Alone.{call-alone}
use Rattle.demands.specs.History.{Deed, event_of, lent_to, Ran}

pub ran-alone : (ds : List Deed) (s s'' : List ℕ) → Ran s ds s'' → Untouched s s''
unfolding Ran
ran-alone [] s s'' e = rw e (untouched-same s)
ran-alone (d ∷ ds) s s'' (s', c, r) =
    untouched-then s s' s'' (call-alone (event_of d.call) s (lent_to d.call) d.answer s' d.output c) (ran-alone ds s' s'' r)
