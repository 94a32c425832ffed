-- What the loop of `census` has counted after i turns, and one turn of it. Assumes nothing.
use mathlib.Core.Path.{◌≡◌, refl, sym, ◌∙◌}
use Prim.Native.Nat.{ℕ, ◌+◌, ◌<◌}
use native.Mathlib.Decide.{ℕ_discrete}
use native.Mathlib.Omega.{arith}
use mathlib.Core.List.{List, [], ◌∷◌, ◌++◌}
use lib.ListN.{length, get_or, set, replicate, length-append, get_or-replicate}
use lib.Seq.{get_or-set_same, get_or-set_other}
use Rattle.std.specs.Prelude.{Some}
use Rattle.table.specs.Entries.{desks, owner, records_of, owners_below, Counted}
use Rattle.table.proofs.Desks.{records_of-snoc-own, records_of-snoc-other}
use Rattle.table.proofs.Owners.{owners_below-snoc}

-- before the first turn
pub tallied-start : Counted [] (Some (replicate desks 0))
unfolding records_of owners_below
tallied-start = (refl, λ d l. get_or-replicate desks d 0 0 l)

-- one entry more: the count of its owner d is one more
pub tallied-step : (es : List (List ℕ)) (c e : List ℕ) (d x : ℕ) → Counted es (Some c) → d ≡ owner e → d < desks → d < length c → x ≡ get_or c d 0 + 1
    → Counted (es ++ e ∷ []) (Some (set c d x))
tallied-step es c e d x h o k l n =
    (owners_below-snoc desks es e h.0 (omega arith), λ b m. go b (ℕ_discrete b d) (h.1 b m))
  where
    go : (b : ℕ) → Dec (b ≡ d) → get_or c b 0 ≡ length (records_of b es) → get_or (set c d x) b 0 ≡ length (records_of b (es ++ e ∷ []))
    go b (yes q) m = rw (records_of-snoc-own b es e (sym (q ∙ o)), length-append, ← m, q, get_or-set_same c d x 0 l) n
    go b (no q) m = rw (records_of-snoc-other b es e (λ p. q (sym (o ∙ p))), get_or-set_other c d b x 0 q) m
