-- What the tests of areas tell, and a list of areas where one changes. Assumes nothing.
use Prim.Native.Nat.{ℕ, zero, suc, ◌+◌, ◌<◌}
use mathlib.Core.Path.{◌≡◌, refl, ap₂}
use mathlib.Core.List.{List, [], ◌∷◌}
use lib.ListN.{set, get_or}
use mathlib.Core.Logic.{◌⊎◌, inl, inr, ⊎_elim}
use mathlib.Core.Bool.{Bool, true, false, ◌||◌, or-true}
use native.Mathlib.Decide.{dec_lt}
use native.Mathlib.Omega.{arith}
use lib.Dec.{leb}
use borrow.Author.Tests.{leb-true, le-leb}
use Rattle.octets.specs.Parts.{Apart}
use Rattle.octets.specs.Areas.{apartb, clear, upto, change}
use Rattle.octets.proofs.Every.{every-at, every-all}

either : (a b : Bool) → a || b ≡ true → (a ≡ true) ⊎ (b ≡ true)
either true b e = inl refl
either false b e = inr e

pub apartb-true : (at n there m : ℕ) → apartb at n there m ≡ true → Apart at n there m
apartb-true at n there m e = ⊎_elim (λ l. inl (leb-true _ _ l)) (λ r. inr (leb-true _ _ r)) (either (leb (at + n) there) (leb (there + m) at) e)

pub apart-apartb : (at n there m : ℕ) → Apart at n there m → apartb at n there m ≡ true
apart-apartb at n there m (inl h) = rw (le-leb _ _ h)
apart-apartb at n there m (inr h) = rw (le-leb _ _ h) (or-true (leb (at + n) there))

pub clear_apart : (m : ℕ) (at n : ℕ → ℕ) → clear m at n ≡ true → (i j : ℕ) → i < m → j < m → (i ≡ j → ⊥) → Apart (at i) (n i) (at j) (n j)
clear_apart m at n e i j hi hj ne =
    elim (dec_lt i j) [
      | yes l ↦ ordered i j hj l
      | no g ↦ ⊎_elim inr inl (ordered j i hi (omega arith))
    ]
  where
    ordered : (i j : ℕ) → j < m → i < j → Apart (at i) (n i) (at j) (n j)
    ordered i j h l = apartb-true _ _ _ _ (every-at j _ i (every-at m _ j e h) l)

pub apart-clear : (m : ℕ) (at n : ℕ → ℕ) → ((i j : ℕ) → i < m → j < m → (i ≡ j → ⊥) → Apart (at i) (n i) (at j) (n j)) → clear m at n ≡ true
apart-clear m at n h = every-all m _ (λ j hj. every-all j _ (λ i hi. apart-apartb _ _ _ _ (h i j (omega arith) hj (omega arith))))

-- ---- a list by its elements

pub upto-same : (n : ℕ) (f g : ℕ → List ℕ) → ((j : ℕ) → j < n → g j ≡ f j) → upto n g ≡ upto n f
unfolding upto
upto-same zero f g h = refl
upto-same (suc n) f g h = ap₂ ◌∷◌ (h 0 (omega arith)) (upto-same n (λ k. f (suc k)) (λ k. g (suc k)) (λ j l. h (suc j) (omega arith)))

pub upto-at : (n : ℕ) (f : ℕ → List ℕ) (k : ℕ) → k < n → get_or (upto n f) k [] ≡ f k
unfolding upto
upto-at zero f k l = absurd (omega arith)
upto-at (suc n) f zero l = refl
upto-at (suc n) f (suc k) l = upto-at n (λ k. f (suc k)) k (omega arith)

-- where one element differs
upto-set : (n : ℕ) (f g : ℕ → List ℕ) (k : ℕ) (y : List ℕ) → k < n → g k ≡ y → ((j : ℕ) → j < n → (k ≡ j → ⊥) → g j ≡ f j) → upto n g ≡ set (upto n f) k y
unfolding upto
upto-set zero f g k y l e h = absurd (omega arith)
upto-set (suc n) f g zero y l e h = ap₂ ◌∷◌ e (upto-same n (λ k. f (suc k)) (λ k. g (suc k)) (λ j b. h (suc j) (omega arith) (omega arith)))
upto-set (suc n) f g (suc k) y l e h =
    ap₂ ◌∷◌ (h 0 (omega arith) (omega arith))
    (upto-set n (λ k. f (suc k)) (λ k. g (suc k)) k y (omega arith) e (λ j b ne. h (suc j) (omega arith) (λ q. ne (omega arith))))

pub upto-change : (n : ℕ) (f f' : ℕ → List ℕ) (k : ℕ) (g : List ℕ → List ℕ) → k < n → f' k ≡ g (f k) → ((j : ℕ) → j < n → (k ≡ j → ⊥) → f' j ≡ f j) → upto n f' ≡ change k g (upto n f)
upto-change n f f' k g l e h = rw (upto-at n f k l) (upto-set n f f' k (g (f k)) l e h)
