-- A tick of all desks, one after the other. Assumes nothing.
use Prim.Native.Nat.{ℕ, zero, suc, ◌+◌, ◌≤◌, ◌<◌}
use mathlib.Core.Path.{◌≡◌, refl, ap, ◌∙◌}
use mathlib.Core.Bool.{true}
use mathlib.Core.List.{List, [], ◌∷◌, ◌++◌, map, append-nil}
use native.Mathlib.Numerals.{add-one}
use native.Mathlib.Omega.{arith}
use lib.ListN.{length, take, drop, set, get_or, length-map, drop_of_length-le}
use lib.Seq.{take_all}
use Rattle.table.specs.Entries.{desks}
use Rattle.rules.specs.Desk.{fresh_desk}
use Rattle.rules.specs.Sighting.{ticked}
use Rattle.rules.specs.Box.{desk_at}
use Rattle.store.specs.View.{view}
use Rattle.store.specs.Sound.{sound}
use Rattle.store.specs.Untouched.{Untouched}
use Rattle.store.proofs.Untouched.{untouched-same, untouched-then}
use Rattle.keeping.specs.Kept.{kept, Says}
use Rattle.keeping.proofs.Rows.{view-length}
use Rattle.sightings.specs.Sighted.{Ticked}

-- a list after i turns: the first i as f makes them, the others as they were
abbrev turned : {A : Type 0} → (A → A) → ℕ → List A → List A
turned f i v = take i (map f v) ++ drop i v

turn : {A : Type 0} (f : A → A) (i : ℕ) (v : List A) (x : A) → i < length v → set (turned f i v) i (f (get_or (turned f i v) i x)) ≡ turned f (suc i) v
turn f i [] x h = absurd (omega arith)
turn f zero (y ∷ v) x h = refl
turn f (suc i) (y ∷ v) x h = ap (◌∷◌ (f y)) (turn f i v x (omega arith))

turned-all : {A : Type 0} (f : A → A) (i : ℕ) (v : List A) → length v ≤ i → turned f i v ≡ map f v
turned-all f i v h = rw (take_all i (map f v) (omega (arith, length-map v f)), drop_of_length-le v h, append-nil)

-- the store after n turns
pub record TickedTo (n : ℕ) (s s' : List ℕ) : Type 0 where
  pub still : sound s' ≡ true
  pub view-is : view s' ≡ turned ticked n (view s)
  pub alone : Untouched s s'

pub ticked-none : (s : List ℕ) → sound s ≡ true → TickedTo 0 s s
ticked-none s e = record { still = e; view-is = refl; alone = untouched-same s }

pub ticked-more : (n : ℕ) (s s' s'' : List ℕ) → n < desks → TickedTo n s s' → Says n (ticked (kept n s')) s' s'' → TickedTo (n + 1) s s''
unfolding desk_at
ticked-more n s s' s'' h a b =
    record {
      still = b.still;
      view-is = b.view-is ∙ rw (a.view-is, add-one) (turn ticked n (view s) fresh_desk (omega (arith, view-length s)));
      alone = untouched-then s s' s'' a.alone b.alone;
    }

pub ticked-all : (n : ℕ) (s s' : List ℕ) → desks ≤ n → TickedTo n s s' → Ticked s s'
ticked-all n s s' h a = record { still = a.still; view-is = a.view-is ∙ turned-all ticked n (view s) (omega (arith, view-length s)); alone = a.alone }
