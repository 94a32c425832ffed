-- Parts of a buffer after a put, and puts one after the other. `put` drops what would fall past the end, so most laws ask nothing of the length.
-- Assumes nothing.
use Prim.Native.Nat.{ℕ, zero, suc, ◌+◌, ◌-◌, ◌≤◌, ◌<◌}
use mathlib.Core.Path.{◌≡◌, refl, sym, ap, ◌∙◌}
use mathlib.Core.Logic.{inl, inr, ⊎_elim}
use mathlib.Core.List.{List, [], ◌∷◌, ◌++◌}
use native.Mathlib.Numerals.{add-one}
use native.Mathlib.Nat.{add-suc, suc-add, add-zero, zero-add}
use native.Mathlib.Decide.{dec_lt}
use native.Mathlib.Omega.{arith}
use lib.Dec.{lit<}
use lib.ListN.{length, take, drop, set, get_or, length-set, length-take, length-drop}
use lib.Seq.{take-set-le, drop-set-lt, take-set-lt, drop-set-add, set_comm, set-set, take-nil, take-take, drop-drop, take-suc, length-take-le, get_or-take, get_or-drop}
use Rattle.octets.specs.Parts.{part, put, Apart}

-- ---- the length

pub put-length : (at : ℕ) (xs s : List ℕ) → length (put at xs s) ≡ length s
unfolding put
put-length at [] s = refl
put-length at (x ∷ xs) s = put-length (suc at) xs (set s at x) ∙ length-set s at x

pub part_length : (at n : ℕ) (s : List ℕ) → at + n ≤ length s → length (part at n s) ≡ n
unfolding part
part_length at n s h = simp (length-take, length-drop) (omega arith)

-- as a slice `s[at..at + n]` says it
pub part_sliced : (at n : ℕ) (s : List ℕ) → take (at + n - at) (drop at s) ≡ part at n s
unfolding part
part_sliced at n s =
    let e : at + n - at ≡ n = omega arith in
    ap (λ (k : ℕ). take k (drop at s)) e

-- ---- what lies before a put, and after it

pub take-put-before : (n at : ℕ) (xs s : List ℕ) → n ≤ at → take n (put at xs s) ≡ take n s
unfolding put
take-put-before n at [] s h = refl
take-put-before n at (x ∷ xs) s h = take-put-before n (suc at) xs (set s at x) (omega arith) ∙ take-set-le n s at x h

pub drop-put-after : (n at : ℕ) (xs s : List ℕ) → at + length xs ≤ n → drop n (put at xs s) ≡ drop n s
unfolding put
drop-put-after n at [] s h = refl
drop-put-after n at (x ∷ xs) s h = drop-put-after n (suc at) xs (set s at x) (omega arith) ∙ drop-set-lt n s at x (omega arith)

pub take_put : (n at : ℕ) (xs s : List ℕ) → at + length xs ≤ n → take n (put at xs s) ≡ put at xs (take n s)
unfolding put
take_put n at [] s h = refl
take_put n at (x ∷ xs) s h = take_put n (suc at) xs (set s at x) (omega arith) ∙ ap (put (suc at) xs) (take-set-lt n s at x (omega arith))

pub drop-put : (n at : ℕ) (xs s : List ℕ) → drop n (put (n + at) xs s) ≡ put at xs (drop n s)
unfolding put
drop-put n at [] s = refl
drop-put n at (x ∷ xs) s =
    ap (λ (k : ℕ). drop n (put k xs (set s (n + at) x))) (sym (add-suc n at))
    ∙ drop-put n (suc at) xs (set s (n + at) x)
    ∙ ap (put (suc at) xs) (drop-set-add n s at x)

-- ---- a part of a put

-- the part lies elsewhere
pub part-put-away : (from n at : ℕ) (xs s : List ℕ) → Apart at (length xs) from n → part from n (put at xs s) ≡ part from n s
unfolding part
part-put-away from n at xs s (inl h) = ap (take n) (drop-put-after from at xs s h)
part-put-away from n at xs s (inr h) =
    let j : ℕ = at - from in
    let e : from + j ≡ at = omega arith in
    ap (λ (k : ℕ). take n (drop from (put k xs s))) (sym e) ∙ ap (take n) (drop-put from j xs s) ∙ take-put-before n j xs (drop from s) (omega arith)

-- what lies in the one of two places apart, and what lies in the other, are apart
pub apart-within : (at n there m p k q l : ℕ) → Apart at n there m → at ≤ p → p + k ≤ at + n → there ≤ q → q + l ≤ there + m → Apart p k q l
apart-within at n there m p k q l (inl h) a b c d = inl (omega arith)
apart-within at n there m p k q l (inr h) a b c d = inr (omega arith)

-- the put lies in the part
pub part-put-in : (from n i : ℕ) (xs s : List ℕ) → i + length xs ≤ n → part from n (put (from + i) xs s) ≡ put i xs (part from n s)
unfolding part
part-put-in from n i xs s h = ap (take n) (drop-put from i xs s) ∙ take_put n i xs (drop from s) h

put-cons : (at : ℕ) (xs : List ℕ) (y : ℕ) (s : List ℕ) → put (suc at) xs (y ∷ s) ≡ y ∷ put at xs s
unfolding put
put-cons at [] y s = refl
put-cons at (x ∷ xs) y s = put-cons (suc at) xs y (set s at x)

-- a put over the whole
pub put_whole : (xs s : List ℕ) → length xs ≡ length s → put 0 xs s ≡ xs
unfolding put
put_whole [] [] h = refl
put_whole [] (y ∷ s) h = absurd (omega arith)
put_whole (x ∷ xs) [] h = absurd (omega arith)
put_whole (x ∷ xs) (y ∷ s) h = put-cons 0 xs x s ∙ ap (λ (r : List ℕ). x ∷ r) (put_whole xs s (omega arith))

-- the part is what was put
pub part-put-same : (at : ℕ) (xs s : List ℕ) → at + length xs ≤ length s → part at (length xs) (put at xs s) ≡ xs
part-put-same at xs s h =
    ap (λ (k : ℕ). part at (length xs) (put k xs s)) (sym (add-zero at))
    ∙ part-put-in at (length xs) 0 xs s (omega arith)
    ∙ put_whole xs (part at (length xs) s) (sym (part_length at (length xs) s h))

-- ---- a put of what is there

pub put-part : (at n : ℕ) (s : List ℕ) → put at (part at n s) s ≡ s
unfolding part put
put-part zero zero s = refl
put-part zero (suc n) [] = refl
put-part zero (suc n) (x ∷ s) = put-cons 0 (take n s) x s ∙ ap (λ (r : List ℕ). x ∷ r) (put-part zero n s)
put-part (suc at) n [] = ap (λ (r : List ℕ). put (suc at) r []) (take-nil n)
put-part (suc at) n (x ∷ s) = put-cons at (take n (drop at s)) x s ∙ ap (λ (r : List ℕ). x ∷ r) (put-part at n s)

-- ---- two puts

set-put : (i x at : ℕ) (xs s : List ℕ) → Apart i 1 at (length xs) → set (put at xs s) i x ≡ put at xs (set s i x)
unfolding put
set-put i x at [] s h = refl
set-put i x at (y ∷ xs) s h =
    set-put i x (suc at) xs (set s at y) (⊎_elim (λ l. inl (omega arith)) (λ r. inr (omega arith)) h)
    ∙ ap (put (suc at) xs) (set_comm s at i y x (⊎_elim (λ l. omega arith) (λ r. omega arith) h))

-- at places apart, in either order
pub put-comm : (at : ℕ) (xs : List ℕ) (there : ℕ) (ys s : List ℕ) → Apart at (length xs) there (length ys) → put at xs (put there ys s) ≡ put there ys (put at xs s)
unfolding put
put-comm at [] there ys s h = refl
put-comm at (x ∷ xs) there ys s h =
    ap (put (suc at) xs) (set-put at x there ys s (⊎_elim (λ l. inl (omega arith)) (λ r. inr (omega arith)) h))
    ∙ put-comm (suc at) xs there ys (set s at x) (⊎_elim (λ l. inl (omega arith)) (λ r. inr (omega arith)) h)

-- a put that covers what an earlier one wrote
set-over : (p x at : ℕ) (ys s : List ℕ) → at ≤ p → p < at + length ys → put at ys (set s p x) ≡ put at ys s
unfolding put
set-over p x at [] s l h = absurd (omega arith)
set-over p x at (y ∷ ys) s l h =
    elim (dec_lt at p) [
      | yes g ↦ ap (put (suc at) ys) (set_comm s p at x y (omega arith)) ∙ set-over p x (suc at) ys (set s at y) (omega arith) (omega arith)
      | no g ↦ let e : p ≡ at = omega arith in ap (λ (q : ℕ). put (suc at) ys (set (set s q x) at y)) e ∙ ap (put (suc at) ys) (set-set s at x y)
    ]

pub put-over : (p : ℕ) (xs : List ℕ) (at : ℕ) (ys s : List ℕ) → at ≤ p → p + length xs ≤ at + length ys → put at ys (put p xs s) ≡ put at ys s
unfolding put
put-over p [] at ys s l h = refl
put-over p (x ∷ xs) at ys s l h = put-over (suc p) xs at ys (set s p x) (omega arith) (omega arith) ∙ set-over p x at ys s l (omega arith)

-- one after the other
pub put-append : (at : ℕ) (xs ys s : List ℕ) → put at (xs ++ ys) s ≡ put (at + length xs) ys (put at xs s)
unfolding put
put-append at [] ys s = ap (λ (k : ℕ). put k ys s) (sym (add-zero at))
put-append at (x ∷ xs) ys s =
    put-append (suc at) xs ys (set s at x)
    ∙ ap (λ (k : ℕ). put k ys (put (suc at) xs (set s at x))) (suc-add at (length xs) ∙ sym (add-suc at (length xs)))

-- one octet
pub put_one : (at x : ℕ) (s : List ℕ) → put at (x ∷ []) s ≡ set s at x
unfolding put
put_one at x s = refl

-- one octet more, as a loop writes them
pub put-more : (at i : ℕ) (xs s : List ℕ) → i < length xs → set (put at (take i xs) s) (at + i) (get_or xs i 0) ≡ put at (take (i + 1) xs) s
put-more at i xs s h =
    let l : length (take i xs) ≡ i = length-take-le i xs (omega arith) in
    sym (rw (add-one, take-suc xs i 0, put-append, l, put_one))

-- ---- a part of a part

drop-take : (i m : ℕ) (l : List ℕ) → drop i (take (i + m) l) ≡ take m (drop i l)
drop-take zero m l = simp zero-add
drop-take (suc i) m [] = simp take-nil
drop-take (suc i) m (x ∷ l) = rw suc-add (drop-take i m l)

pub part-part : (i m at n : ℕ) (s : List ℕ) → i + m ≤ n → part i m (part at n s) ≡ part (at + i) m s
unfolding part
part-part i m at n s h =
    let e : n ≡ i + (n - i) = omega arith in
    ap (λ (k : ℕ). take m (drop i (take k (drop at s)))) e
    ∙ ap (take m) (drop-take i (n - i) (drop at s))
    ∙ take-take m (n - i) (drop i (drop at s)) (omega arith)
    ∙ ap (take m) (drop-drop i at s)

-- ---- a part, octet by octet

pub part_at : (at n : ℕ) (s : List ℕ) (i : ℕ) → i < n → get_or (part at n s) i 0 ≡ get_or s (at + i) 0
unfolding part
part_at at n s i h = get_or-take n (drop at s) i 0 h ∙ get_or-drop at s i 0

-- an octet, as a part of one
pub octet-part : (at : ℕ) (s : List ℕ) → get_or s at 0 ≡ get_or (part at 1 s) 0 0
octet-part at s = sym (part_at at 1 s 0 (lit< tt) ∙ rw add-zero)

-- an octet that lies elsewhere than a put
pub octet-away : (i at : ℕ) (xs s : List ℕ) → Apart at (length xs) i 1 → get_or (put at xs s) i 0 ≡ get_or s i 0
octet-away i at xs s h =
    octet-part i (put at xs s) ∙ ap (λ (r : List ℕ). get_or r 0 0) (part-put-away i 1 at xs s h) ∙ sym (octet-part i s)

pub part_none : (at : ℕ) (s : List ℕ) → part at 0 s ≡ []
unfolding part
part_none at s = refl

pub part-more : (at n : ℕ) (s : List ℕ) → at + n < length s → part at (n + 1) s ≡ part at n s ++ (get_or s (at + n) 0 ∷ [])
unfolding part
part-more at n s h =
    let l : n < length (drop at s) = simp length-drop (omega arith) in
    rw (add-one, take-suc (drop at s) n 0, get_or-drop)

-- ---- at the start of a buffer

pub put_front : (xs s : List ℕ) → length xs ≤ length s → put 0 xs s ≡ xs ++ drop (length xs) s
unfolding put
put_front [] s h = refl
put_front (x ∷ xs) [] h = absurd (omega arith)
put_front (x ∷ xs) (y ∷ s) h = put-cons 0 xs x s ∙ ap (λ (r : List ℕ). x ∷ r) (put_front xs s (omega arith))
