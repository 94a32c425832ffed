-- From a part that was lent, `&mut s[at..e]`, to a put. Assumes nothing.
use Prim.Native.Nat.{ℕ, suc, ◌+◌, ◌≤◌}
use mathlib.Core.Path.{◌≡◌, refl, sym, ap, ◌∙◌}
use mathlib.Core.List.{List, [], ◌∷◌, ◌++◌, append_assoc}
use native.Mathlib.Omega.{arith}
use lib.ListN.{length, take, drop, set, length-take, length-drop}
use lib.Seq.{paste, sets, sets-eq, drop-drop}
use Rattle.octets.specs.Parts.{part, put}
use Rattle.octets.proofs.Puts.{put-length, part_length, part-put-in, put-over, put-part}

put-sets : (at : ℕ) (xs s : List ℕ) → put at xs s ≡ sets s at xs
unfolding put
put-sets at [] s = refl
put-sets at (x ∷ xs) s = put-sets (suc at) xs (set s at x)

pub put-mid : (at k : ℕ) (ys s : List ℕ) → length ys ≡ length (take k (drop at s)) → at + k ≤ length s → take at s ++ (ys ++ drop k (drop at s)) ≡ put at ys s
put-mid at k ys s e h =
    let l : length ys ≡ k = e ∙ simp (length-take, length-drop) (omega arith) in
    sym (append_assoc (take at s) ys (drop k (drop at s)))
    ∙ ap (λ (r : List ℕ). take at s ++ ys ++ r) (drop-drop k at s ∙ ap (λ (j : ℕ). drop (at + j) s) (sym l))
    ∙ sym (put-sets at ys s ∙ sets-eq ys s at (omega arith))

-- a part that was written over
pub put_over : (at k : ℕ) (ys xs s : List ℕ) → ys ≡ xs → k ≡ length xs → at + k ≤ length s → take at s ++ (ys ++ drop k (drop at s)) ≡ put at xs s
put_over at k ys xs s e l h =
    put-mid at k ys s (ap length e ∙ sym l ∙ simp (length-take, length-drop) (omega arith)) h ∙ ap (λ (zs : List ℕ). put at zs s) e

-- octets that were copied to another place of the buffer
pub put_moved : (to from n k : ℕ) (s : List ℕ) → k ≡ n → from + n ≤ length s → to + n ≤ length s → paste s to (drop from s) k ≡ put to (part from n s) s
unfolding part
put_moved to from n k s e h l =
    let size : length (part from n s) ≡ n = part_length from n s h in
    ap (paste s to (drop from s)) e
    ∙ ap (λ (j : ℕ). take to s ++ take n (drop from s) ++ drop (to + j) s) (sym size)
    ∙ sym (put-sets to (part from n s) s ∙ sets-eq (part from n s) s to (omega arith))

-- a part that was put back with a put in it
pub put_back : (at k i : ℕ) (xs s : List ℕ) → at + k ≤ length s → i + length xs ≤ k → put at (put i xs (part at k s)) s ≡ put (at + i) xs s
put_back at k i xs s h f =
    let t : List ℕ = put (at + i) xs s in
    let l : length (part at k t) ≡ k = part_length at k t (omega (arith, put-length (at + i) xs s)) in
    ap (λ (ys : List ℕ). put at ys s) (sym (part-put-in at k i xs s f))
    ∙ sym (put-over (at + i) xs at (part at k t) s (omega arith) (omega arith))
    ∙ put-part at k t

-- the bridge for a callee that was lent the part and left `put i xs` of it
pub put-lent : (at k i : ℕ) (xs ys s : List ℕ) → ys ≡ put i xs (take k (drop at s)) → at + k ≤ length s → i + length xs ≤ k → take at s ++ (ys ++ drop k (drop at s)) ≡ put (at + i) xs s
unfolding part
put-lent at k i xs ys s e h f =
    put-mid at k ys s (ap length e ∙ put-length i xs (take k (drop at s))) h
    ∙ ap (λ (zs : List ℕ). put at zs s) e
    ∙ put_back at k i xs s h f
