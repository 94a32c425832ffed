-- A buffer in rows of n octets: how many, a put in one of them, one more behind them, put together again. Assumes nothing.
use Prim.Native.Nat.{ℕ, zero, suc, ◌+◌, ◌-◌, ◌*◌, ◌≤◌, ◌<◌}
use mathlib.Core.Path.{◌≡◌, refl, sym, ap, ap₂, ◌∙◌}
use mathlib.Core.List.{List, [], ◌∷◌, ◌++◌, append_assoc, append-nil}
use native.Mathlib.Numerals.{add-one}
use native.Mathlib.Nat.{suc-mul, mul-zero, mul-suc, add_comm, zero-add}
use native.Mathlib.Omega.{arith}
use lib.ListN.{length, take, drop, set, get_or, length-drop, length-append}
use lib.Seq.{drop-drop, length-take-le, take-add, take_at, drop_at, get_or-drop}
use Rattle.octets.specs.Parts.{part, put, rows, joined}
use Rattle.octets.specs.Numbers.{Octets}
use Rattle.octets.specs.Each.{All}
use Rattle.octets.proofs.Numbers.{octets-part}
use Rattle.octets.proofs.Puts.{take_put, drop-put-after, take-put-before, drop-put, put_front, put-append, part-put-same}

pub rows-length : (m n : ℕ) (s : List ℕ) → length (rows m n s) ≡ m
unfolding rows
rows-length zero n s = refl
rows-length (suc m) n s = ap suc (rows-length m n (drop n s))

-- row d
pub rows_at : (m n d : ℕ) (s : List ℕ) → d < m → get_or (rows m n s) d [] ≡ part (n * d) n s
unfolding rows part
rows_at zero n d s h = absurd (omega arith)
rows_at (suc m) n zero s h = rw mul-zero
rows_at (suc m) n (suc d) s h = rows_at m n d (drop n s) (omega arith) ∙ rw (mul-suc, add_comm (n * d) n, drop-drop)

-- a put in row d changes that row alone
pub rows-put : (m n d i : ℕ) (xs s : List ℕ) → d < m → i + length xs ≤ n → rows m n (put (d * n + i) xs s) ≡ set (rows m n s) d (put i xs (get_or (rows m n s) d []))
unfolding rows
rows-put zero n d i xs s h k = absurd (omega arith)
rows-put (suc m) n zero i xs s h k =
    let e : 0 * n + i ≡ i = omega arith in
    ap (λ (p : ℕ). rows (suc m) n (put p xs s)) e ∙ ap₂ ◌∷◌ (take_put n i xs s k) (ap (rows m n) (drop-put-after n i xs s k))
rows-put (suc m) n (suc d) i xs s h k =
    let e : suc d * n + i ≡ n + (d * n + i) = omega (arith, suc-mul d n) in
    ap (λ (p : ℕ). rows (suc m) n (put p xs s)) e
    ∙ ap₂ ◌∷◌
    (take-put-before n (n + (d * n + i)) xs s (omega arith))
    (ap (rows m n) (drop-put n (d * n + i) xs s) ∙ rows-put m n d i xs (drop n s) (omega arith) k)

-- ---- each is w octets long

unfoldable pub Wide : ℕ → List (List ℕ) → Type 0
Wide w [] = Unit {0}
Wide w (e ∷ es) = (length e ≡ w) × Wide w es

pub wide-append : (w : ℕ) (es fs : List (List ℕ)) → Wide w es → Wide w fs → Wide w (es ++ fs)
unfolding Wide
wide-append w [] fs h k = k
wide-append w (e ∷ es) fs h k = (h.0, wide-append w es fs h.1 k)

pub wide-take : (w n : ℕ) (es : List (List ℕ)) → Wide w es → Wide w (take n es)
unfolding Wide
wide-take w zero es h = tt
wide-take w (suc n) [] h = tt
wide-take w (suc n) (e ∷ es) h = (h.0, wide-take w n es h.1)

pub wide-one : (w : ℕ) (e : List ℕ) → length e ≡ w → Wide w (e ∷ [])
unfolding Wide
wide-one w e h = (h, tt)

pub rows-wide : (m n : ℕ) (s : List ℕ) → n * m ≤ length s → Wide n (rows m n s)
unfolding rows Wide
rows-wide zero n s h = tt
rows-wide (suc m) n s h =
    let h' : n * m + n ≤ length s = rw mul-suc at h in
    (length-take-le n s (omega arith), rows-wide m n (drop n s) (simp length-drop (omega arith)))

-- ---- put together

pub joined-append : (es fs : List (List ℕ)) → joined (es ++ fs) ≡ joined es ++ joined fs
unfolding joined
joined-append [] fs = refl
joined-append (e ∷ es) fs = rw (joined-append es fs) (sym (append_assoc e (joined es) (joined fs)))

pub joined-one : (e : List ℕ) → joined (e ∷ []) ≡ e
unfolding joined
joined-one e = append-nil e

pub length-joined : (w : ℕ) (es : List (List ℕ)) → Wide w es → length (joined es) ≡ w * length es
unfolding joined Wide
length-joined w [] h = sym (mul-zero w)
length-joined w (e ∷ es) h =
    rw (length-append, length-joined w es h.1, h.0, mul-suc) (add_comm w (w * length es))

pub joined-rows : (m n : ℕ) (s : List ℕ) → joined (rows m n s) ≡ take (n * m) s
unfolding rows joined
joined-rows zero n s = rw mul-zero
joined-rows (suc m) n s = rw (joined-rows m n (drop n s), mul-suc, add_comm (n * m) n, take-add)

-- what is put together is cut into the same rows, whatever lies behind
rows-joined-then : (w : ℕ) (es : List (List ℕ)) (rest : List ℕ) → Wide w es → rows (length es) w (joined es ++ rest) ≡ es
unfolding rows joined Wide
rows-joined-then w [] rest h = refl
rows-joined-then w (e ∷ es) rest h =
    rw (append_assoc, take_at e (joined es ++ rest) w h.0, drop_at e (joined es ++ rest) w h.0)
    (ap (λ (r : List (List ℕ)). e ∷ r) (rows-joined-then w es rest h.1))

pub rows-joined : (w : ℕ) (es : List (List ℕ)) (s : List ℕ) → Wide w es → w * length es ≤ length s → rows (length es) w (put 0 (joined es) s) ≡ es
rows-joined w es s h l =
    let n : length (joined es) ≡ w * length es = length-joined w es h in
    ap (rows (length es) w) (put_front (joined es) s (omega arith)) ∙ rows-joined-then w es (drop (length (joined es)) s) h

-- rows put behind rows
pub put-joined : (w : ℕ) (es fs : List (List ℕ)) (s : List ℕ) → Wide w es
    → put (w * length es) (joined fs) (put 0 (joined es) s) ≡ put 0 (joined (es ++ fs)) s
put-joined w es fs s h = sym (rw (joined-append, put-append, length-joined w es h, zero-add))

-- ---- one row more

pub rows_snoc : (m n : ℕ) (s : List ℕ) → rows (suc m) n s ≡ rows m n s ++ part (n * m) n s ∷ []
unfolding rows part
rows_snoc zero n s = rw mul-zero
rows_snoc (suc m) n s =
    ap (λ (r : List (List ℕ)). take n s ∷ r) (rows_snoc m n (drop n s) ∙ rw (mul-suc, add_comm (n * m) n, drop-drop))

-- a put behind the rows leaves them
pub rows_before : (m n at : ℕ) (xs s : List ℕ) → n * m ≤ at → rows m n (put at xs s) ≡ rows m n s
unfolding rows
rows_before zero n at xs s h = refl
rows_before (suc m) n at xs s h =
    let h' : n * m + n ≤ at = rw mul-suc at h in
    let e : n + (at - n) ≡ at = omega arith in
    ap₂ ◌∷◌ (take-put-before n at xs s (omega arith))
    (ap (λ (k : ℕ). rows m n (drop n (put k xs s))) (sym e) ∙ ap (rows m n) (drop-put n (at - n) xs s) ∙ rows_before m n (at - n) xs (drop n s) (omega arith))

-- a row written behind the first m
pub rows_more : (m n : ℕ) (e s : List ℕ) → length e ≡ n → n * (m + 1) ≤ length s → rows (m + 1) n (put (n * m) e s) ≡ rows m n s ++ e ∷ []
rows_more m n e s k h =
    let h' : n * m + n ≤ length s = rw (add-one, mul-suc) at h in
    let fits : n * m + length e ≤ length s = omega arith in
    let same : rows m n (put (n * m) e s) ≡ rows m n s = rows_before m n (n * m) e s (omega arith) in
    rw (add-one m, rows_snoc m n, same)
    (ap (λ (r : List ℕ). rows m n s ++ r ∷ []) (ap (λ (j : ℕ). part (n * m) j (put (n * m) e s)) (sym k) ∙ part-put-same (n * m) e s fits))

-- ---- rows of octets

pub rows-octets : (m n : ℕ) (s : List ℕ) → Octets s → All Octets (rows m n s)
unfolding rows part
rows-octets zero n s h = tt
rows-octets (suc m) n s h = (octets-part 0 n s h, rows-octets m n (drop n s) (λ i. rw get_or-drop (h (n + i))))
