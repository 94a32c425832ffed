-- What is true of a command's outcome behind its tests, from what is true where each of them is given and where none is. P is told whether the
-- outcome is 0x11 from a test. Assumes nothing.
use Prim.Native.Nat.{ℕ}
use mathlib.Core.Path.{◌≡◌, refl}
use mathlib.Core.Bool.{Bool, true, false, cond, ◌||◌}
use mathlib.Core.List.{[]}
use mathlib.Core.Option.{none, some}
use Rattle.rules.specs.Desk.{Desk}
use Rattle.rules.specs.Command.{Result, result, unless}

module _ (P : Bool → Result → Type 0) (d : Desk) (r : Result) (out : P true (result 0x11 [] d)) where
  pub one-test : (b : Bool) → (b ≡ false → P false r) → P b (unless (cond b (some 0x11) none) d r)
  unfolding unless
  one-test true h = out
  one-test false h = h refl

  -- one of 0x11, and behind it one of another status
  pub other_test : (a b : Bool) (n : ℕ) → (b ≡ true → P false (result n [] d)) → (a ≡ false → b ≡ false → P false r)
      → P a (unless (cond a (some 0x11) (cond b (some n) none)) d r)
  unfolding unless
  other_test true b n e h = out
  other_test false true n e h = e refl
  other_test false false n e h = h refl refl

  -- the same between two of 0x11, and never where the last is given
  pub between : (a b c : Bool) (n : ℕ) → (b ≡ true → c ≡ false) → (b ≡ true → P false (result n [] d)) → (b ≡ false → P false r)
      → P (a || c) (unless (cond a (some 0x11) (cond b (some n) (cond c (some 0x11) none))) d r)
  unfolding unless
  between true b c n apart e h = out
  between false true c n apart e h = rw (apart refl) (e refl)
  between false false c n apart e h = one-test c (λ z. h refl)
