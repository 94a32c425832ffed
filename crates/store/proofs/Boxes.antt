-- The box that rows say has a desk for each of them. Assumes nothing.
use Prim.Native.Nat.{ℕ, suc}
use mathlib.Core.Path.{◌≡◌, refl, ap}
use mathlib.Core.List.{List, [], ◌∷◌}
use lib.ListN.{length}
use Rattle.store.specs.View.{box_from}

pub box-length : (k : ℕ) (rs es : List (List ℕ)) → length (box_from k rs es) ≡ length rs
unfolding box_from
box-length k [] es = refl
box-length k (r ∷ rs) es = ap suc (box-length (suc k) rs es)
