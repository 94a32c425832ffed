-- The box that rows and entries say, where one row changes, or the records of one desk. Assumes nothing.
use Prim.Native.Nat.{ℕ, zero, suc, ◌+◌, ◌≤◌, ◌<◌}
use mathlib.Core.Path.{◌≡◌, refl, ap, ap₂, ◌∙◌}
use mathlib.Core.List.{List, [], ◌∷◌}
use native.Mathlib.Nat.{add-zero, add-suc, suc-add}
use native.Mathlib.Omega.{arith}
use lib.ListN.{length, get_or, set}
use Rattle.table.specs.Entries.{records_of}
use Rattle.rules.specs.Desk.{Desk}
use Rattle.rules.specs.Box.{Box}
use Rattle.store.specs.View.{desk_in, box_from}

pub box-at : (k : ℕ) (rs es : List (List ℕ)) (d : ℕ) (x : Desk) → d < length rs → get_or (box_from k rs es) d x ≡ desk_in (get_or rs d []) (records_of (k + d) es)
unfolding box_from
box-at k [] es d x h = absurd (omega arith)
box-at k (r ∷ rs) es zero x h = rw add-zero
box-at k (r ∷ rs) es (suc d) x h = box-at (suc k) rs es d x (omega arith) ∙ rw (add-suc, suc-add)

-- one row
pub box-row : (k : ℕ) (rs es : List (List ℕ)) (d : ℕ) (row : List ℕ) → box_from k (set rs d row) es ≡ set (box_from k rs es) d (desk_in row (records_of (k + d) es))
unfolding box_from
box-row k [] es d row = refl
box-row k (r ∷ rs) es zero row = rw add-zero
box-row k (r ∷ rs) es (suc d) row = ap (λ (b : Box). desk_in r (records_of k es) ∷ b) (box-row (suc k) rs es d row ∙ rw (add-suc, suc-add))

-- the same records for every desk
box-same : (k : ℕ) (rs es es' : List (List ℕ)) → ((c : ℕ) → k ≤ c → c < k + length rs → records_of c es' ≡ records_of c es) → box_from k rs es' ≡ box_from k rs es
unfolding box_from
box-same k [] es es' h = refl
box-same k (r ∷ rs) es es' h =
    ap₂ ◌∷◌ (ap (desk_in r) (h k (omega arith) (omega arith))) (box-same (suc k) rs es es' (λ c a l. h c (omega arith) (omega arith)))

-- the records of one desk
pub box-records : (k : ℕ) (rs es es' : List (List ℕ)) (d : ℕ) → d < length rs → ((c : ℕ) → c < k + length rs → (c ≡ k + d → ⊥) → records_of c es' ≡ records_of c es)
    → box_from k rs es' ≡ set (box_from k rs es) d (desk_in (get_or rs d []) (records_of (k + d) es'))
unfolding box_from
box-records k [] es es' d l h = absurd (omega arith)
box-records k (r ∷ rs) es es' zero l h = rw add-zero (ap (λ (b : Box). desk_in r (records_of k es') ∷ b) (box-same (suc k) rs es es' (λ c a b. h c (omega arith) (omega arith))))
box-records k (r ∷ rs) es es' (suc d) l h =
    ap₂ ◌∷◌ (ap (desk_in r) (h k (omega arith) (omega arith)))
    (box-records (suc k) rs es es' d (omega arith) (λ c b n. h c (omega arith) (λ e. n (omega arith))) ∙ rw (add-suc, suc-add))
