-- Laws of `swept_of` and `sweep_of`: what one more lock makes of each, and how many are left. Assumes nothing.
use mathlib.Core.Path.{◌≡◌, refl, sym, ◌∙◌, ap}
use mathlib.Core.List.{List, [], ◌∷◌, ◌++◌, append-nil}
use Prim.Native.Nat.{ℕ, suc, ◌+◌, ◌-◌, ◌≤◌, ◌<◌}
use native.Mathlib.Numerals.{add-one}
use native.Mathlib.Omega.{arith}
use lib.ListN.{length, take, drop, get_or, set, length-append}
use lib.Seq.{take-suc, drop-cons, append_snoc, set-append_seam, get_or-append-add, get_or-drop, length-take-le}
use Rattle.locks.specs.declared.Lock.{Lock}
use Rattle.std.specs.Prelude.{Option, Some, None}
use Rattle.locks.specs.Locks.{aged_of, kept_before, swept_of}

-- ---- a list that is swept
keep_append : (a : Option Lock) (xs ys : List Lock) → kept_before a (xs ++ ys) ≡ kept_before a xs ++ ys
keep_append (Some l) xs ys = refl
keep_append None xs ys = refl

pub swept-append : (xs ys : List Lock) → swept_of (xs ++ ys) ≡ swept_of xs ++ swept_of ys
unfolding swept_of
swept-append [] ys = refl
swept-append (x ∷ xs) ys = ap (kept_before (aged_of x)) (swept-append xs ys) ∙ keep_append (aged_of x) (swept_of xs) (swept_of ys)

keep-length : (a : Option Lock) (xs : List Lock) (n : ℕ) → length xs ≤ n → length (kept_before a xs) ≤ suc n
keep-length (Some l) xs n h = omega arith
keep-length None xs n h = omega arith

pub swept-length : (xs : List Lock) → length (swept_of xs) ≤ length xs
unfolding swept_of
swept-length [] = omega arith
swept-length (x ∷ xs) = keep-length (aged_of x) (swept_of xs) (length xs) (swept-length xs)

-- those that are left of the first i
abbrev pub left-of : ℕ → List Lock → ℕ
left-of i ls = length (swept_of (take i ls))

-- what the loop leaves of a slice after i turns
abbrev pub sweep_to : ℕ → List Lock → List Lock
sweep_to i ls = swept_of (take i ls) ++ drop (left-of i ls) ls

pub left-within : (ls : List Lock) (i : ℕ) → i ≤ length ls → left-of i ls ≤ i
left-within ls i h = omega (arith, swept-length (take i ls), length-take-le i ls h)

-- before the first turn
pub none_left : (ls : List Lock) → left-of 0 ls ≡ 0
unfolding swept_of
none_left ls = refl

pub sweep-none : (ls : List Lock) → sweep_to 0 ls ≡ ls
unfolding swept_of
sweep-none ls = refl

module _ (ls : List Lock) (i : ℕ) (d : Lock) (h : i < length ls) where
  swept-next : swept_of (take (i + 1) ls) ≡ swept_of (take i ls) ++ swept_of (get_or ls i d ∷ [])
  swept-next = rw (add-one, take-suc ls i d) (swept-append (take i ls) (get_or ls i d ∷ []))

  kept : (a : Lock) → aged_of (get_or ls i d) ≡ Some a → swept_of (take (i + 1) ls) ≡ swept_of (take i ls) ++ (a ∷ [])
  unfolding swept_of
  kept a e = swept-next ∙ ap (λ (t : Option Lock). swept_of (take i ls) ++ kept_before t []) e

  gone : aged_of (get_or ls i d) ≡ None → swept_of (take (i + 1) ls) ≡ swept_of (take i ls)
  unfolding swept_of
  gone e = swept-next ∙ ap (λ (t : Option Lock). swept_of (take i ls) ++ kept_before t []) e ∙ append-nil (swept_of (take i ls))

  -- what stands at i is not yet written
  pub sweep-at : get_or (sweep_to i ls) i d ≡ get_or ls i d
  sweep-at = at_after (swept_of (take i ls)) (left-within ls i (omega arith))
    where
      at_after : (s : List Lock) → length s ≤ i → get_or (s ++ drop (length s) ls) i d ≡ get_or ls i d
      at_after s l = let e : length s + (i - length s) ≡ i = omega arith in
          ap (λ (k : ℕ). get_or (s ++ drop (length s) ls) k d) (sym e) ∙ get_or-append-add s (drop (length s) ls) (i - length s) d ∙ get_or-drop (length s) ls (i - length s) d ∙ ap (λ (k : ℕ). get_or ls k d) e

  -- a turn that keeps the lock at i
  pub kept-count : (a : Lock) → aged_of (get_or ls i d) ≡ Some a → left-of (i + 1) ls ≡ left-of i ls + 1
  kept-count a e = ap length (kept a e) ∙ length-append (swept_of (take i ls)) (a ∷ [])

  pub kept_put : (a : Lock) → aged_of (get_or ls i d) ≡ Some a → set (sweep_to i ls) (left-of i ls) a ≡ sweep_to (i + 1) ls
  kept_put a e = put (swept_of (take i ls)) a (omega (arith, left-within ls i (omega arith))) ∙ ap (λ (s : List Lock). s ++ drop (length s) ls) (sym (kept a e))
    where
      put : (s : List Lock) (a : Lock) → length s < length ls → set (s ++ drop (length s) ls) (length s) a ≡ (s ++ (a ∷ [])) ++ drop (length (s ++ (a ∷ []))) ls
      put s a l = ap (λ (zs : List Lock). set (s ++ zs) (length s) a) (drop-cons ls (length s) d l) ∙ set-append_seam s (get_or ls (length s) d) (drop (suc (length s)) ls) a
          ∙ sym (append_snoc s a (drop (suc (length s)) ls)) ∙ ap (λ (k : ℕ). (s ++ (a ∷ [])) ++ drop k ls) (sym (length-append s (a ∷ []) ∙ add-one (length s)))

  -- a turn that drops it
  pub gone-count : aged_of (get_or ls i d) ≡ None → left-of (i + 1) ls ≡ left-of i ls
  gone-count e = ap length (gone e)

  pub gone-put : aged_of (get_or ls i d) ≡ None → sweep_to i ls ≡ sweep_to (i + 1) ls
  gone-put e = ap (λ (s : List Lock). s ++ drop (length s) ls) (sym (gone e))

-- ---- a turn, at a list t and a count w that are those of the first i
module _ (ls t : List Lock) (w i : ℕ) (d : Lock) (h : i < length ls) (wi : w ≡ left-of i ls) (ti : t ≡ sweep_to i ls) where
  same_at : aged_of (get_or t i d) ≡ aged_of (get_or ls i d)
  same_at = ap aged_of (ap (λ (l : List Lock). get_or l i d) ti ∙ sweep-at ls i d h)

  pub turn-kept : (a : Lock) → Some a ≡ aged_of (get_or t i d) → (w + 1 ≡ left-of (i + 1) ls) × (set t w a ≡ sweep_to (i + 1) ls)
  turn-kept a stays =
      let e : aged_of (get_or ls i d) ≡ Some a = sym (stays ∙ same_at) in
      (ap (λ (k : ℕ). k + 1) wi ∙ sym (kept-count ls i d h a e), (λ j. set (ti j) (wi j) a) ∙ kept_put ls i d h a e)

  pub turn-gone : None ≡ aged_of (get_or t i d) → (w ≡ left-of (i + 1) ls) × (t ≡ sweep_to (i + 1) ls)
  turn-gone goes =
      let e : aged_of (get_or ls i d) ≡ None = sym (goes ∙ same_at) in
      (wi ∙ sym (gone-count ls i d h e), ti ∙ gone-put ls i d h e)
