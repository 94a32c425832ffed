-- Octets side by side: a part that is cut in two, a part of lists put together, puts next to each other. Assumes nothing.
use Prim.Native.Nat.{ℕ, ◌+◌}
use mathlib.Core.Path.{◌≡◌, sym, ap, ◌∙◌}
use mathlib.Core.List.{List, [], ◌∷◌, ◌++◌, append_assoc}
use native.Mathlib.Numerals.{add-one}
use native.Mathlib.Nat.{zero-add}
use lib.ListN.{length, take, drop, set}
use lib.Seq.{take-add, take_at, drop_at, drop-drop}
use Rattle.octets.specs.Parts.{part, put}
use Rattle.octets.proofs.Puts.{put-append}

-- n octets, and m after them
pub part-add : (at n m : ℕ) (s : List ℕ) → part at (n + m) s ≡ part at n s ++ part (at + n) m s
unfolding part
part-add at n m s = rw (take-add, drop-drop)

-- the part is the list in the middle
pub part-middle : (xs ys zs : List ℕ) (at n : ℕ) → length xs ≡ at → length ys ≡ n → part at n ((xs ++ ys) ++ zs) ≡ ys
unfolding part
part-middle xs ys zs at n e h =
    ap (λ (l : List ℕ). take n (drop at l)) (append_assoc xs ys zs)
    ∙ ap (take n) (drop_at xs (ys ++ zs) at e)
    ∙ take_at ys zs n h

-- a put right behind another, at the start of a buffer
pub put_next : (xs ys s : List ℕ) (i : ℕ) → length xs ≡ i → put i ys (put 0 xs s) ≡ put 0 (xs ++ ys) s
put_next xs ys s i e =
    ap (λ (k : ℕ). put k ys (put 0 xs s)) (sym (zero-add (length xs) ∙ e)) ∙ sym (put-append 0 xs ys s)

-- two octets, written one after the other
pub put_two : (at x y : ℕ) (s : List ℕ) → set (set s at x) (at + 1) y ≡ put at (x ∷ y ∷ []) s
unfolding put
put_two at x y s = rw add-one
