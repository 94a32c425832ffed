-- The fresh row, header and rows, as they are written one part behind the other. Assumes nothing.
use Prim.Native.Nat.{ℕ, zero, suc, ◌+◌, ◌-◌, ◌*◌}
use mathlib.Core.Path.{◌≡◌, refl, sym, ap, ◌∙◌}
use mathlib.Core.List.{List, [], ◌∷◌, ◌++◌, append-nil}
use lib.ListN.{length, take, drop, replicate, length-append, length-drop, length-replicate, replicate-append-replicate, drop_of_length-le}
use lib.Seq.{length-take-le, drop_at}
use native.Mathlib.Omega.{arith}
use Rattle.octets.specs.Parts.{put, joined}
use Rattle.octets.specs.Numbers.{octets}
use Rattle.octets.proofs.Puts.{put-length, put-append, put_front}
use Rattle.octets.proofs.Joins.{put_next}
use Rattle.octets.proofs.Numbers.{octets-length}
use Rattle.octets.proofs.Rows.{Wide, joined-append, joined-one, length-joined}
use Rattle.table.specs.Entries.{desks}
use Rattle.rules.specs.Config.{memory_size, defaults, valid_of}
use Rattle.rules.proofs.Memories.{defaults-legal}
use Rattle.rules.proofs.Computed.{computed}
use Rattle.store.specs.Rows.{ram_at, eeprom_at, valid_at, login_at}
use Rattle.store.specs.Layout.{store_size, row_width, header_size, used_at}
use Rattle.fresh.specs.Fresh.{rows_begin, entries_begin, fresh_row, fresh_header, fresh_store}

-- three parts, one behind the other
put_three : (xs ys zs s : List ℕ) (i j : ℕ) → length xs ≡ i → length xs + length ys ≡ j → put j zs (put i ys (put 0 xs s)) ≡ put 0 (xs ++ ys ++ zs) s
put_three xs ys zs s i j e h = ap (put j zs) (put_next xs ys s i e) ∙ put_next (xs ++ ys) zs s j (length-append xs ys ∙ h)

-- ---- zeros behind what is written

-- what is written in front of the last m octets hides what lay there
front-hides : (xs a z : List ℕ) (n : ℕ) → length xs ≡ n → length a ≡ n → put 0 xs (a ++ z) ≡ xs ++ z
front-hides xs a z n e h =
    put_front xs (a ++ z) (rw length-append (omega arith))
    ∙ ap (λ (r : List ℕ). xs ++ r) (drop_at a z (length xs) (omega arith))

-- zeros in the last m octets, and before them what is written: that is all written in zeros
zeros-behind : (xs s y : List ℕ) (n m : ℕ) → length xs ≡ n → length s ≡ n + m → y ≡ replicate (length (take m (drop n s))) 0
    → put 0 xs (take n s ++ (y ++ drop m (drop n s))) ≡ put 0 xs (replicate (n + m) 0)
zeros-behind xs s y n m e h z =
    let none : drop m (drop n s) ≡ [] = drop_of_length-le (drop n s) {i = m} (simp length-drop (omega arith)) in
    let last : y ≡ replicate m 0 = z ∙ ap (λ (k : ℕ). replicate k 0) (length-take-le m (drop n s) (simp length-drop (omega arith))) in
    ap (λ (r : List ℕ). put 0 xs (take n s ++ r)) (rw (none, append-nil) last)
    ∙ front-hides xs (take n s) (replicate m 0) n e (length-take-le n s (omega arith))
    ∙ sym (front-hides xs (replicate n 0) (replicate m 0) n e (length-replicate {A = ℕ} n 0))
    ∙ ap (put 0 xs) (replicate-append-replicate {A = ℕ} n m 0)

-- ---- a row

-- zeros, and before them the defaults twice and VALID-TIME v
pub row_made : (v : ℕ) (s y : List ℕ) → v ≡ valid_of defaults → length s ≡ row_width → y ≡ replicate (length (take (row_width - login_at) (drop login_at s))) 0
    → put valid_at (octets 2 v) (put eeprom_at defaults (put ram_at defaults (take login_at s ++ (y ++ drop (row_width - login_at) (drop login_at s))))) ≡ fresh_row
unfolding fresh_row
row_made v s y e h z =
    let d : length defaults ≡ memory_size = defaults-legal.size in
    let front = defaults ++ defaults ++ octets 2 (valid_of defaults) in
    let long : length front ≡ login_at = rw (length-append, length-append) (omega (arith, octets-length 2 (valid_of defaults))) in
    rw e (put_three defaults defaults (octets 2 (valid_of defaults)) _ eeprom_at valid_at d (omega arith)
    ∙ zeros-behind front s y login_at (row_width - login_at) long h z)

pub row-length : length fresh_row ≡ row_width
unfolding fresh_row
row-length = put-length 0 _ (replicate row_width 0) ∙ length-replicate {A = ℕ} row_width 0

-- the rows at a, the entries at b, u of them in use
pub header_made : (a b u : ℕ) (s : List ℕ) → a ≡ rows_begin → b ≡ entries_begin → u ≡ 0 → put used_at (octets 2 u) (put 2 (octets 2 b) (put 0 (octets 2 a) s)) ≡ put 0 fresh_header s
unfolding fresh_header
header_made a b u s p q r =
    put_three (octets 2 a) (octets 2 b) (octets 2 u) s 2 used_at (octets-length 2 a) (omega (arith, octets-length 2 a, octets-length 2 b)) ∙ rw (p, q, r)

pub fresh-length : length fresh_header ≡ header_size
unfolding computed fresh_header
fresh-length = refl

-- ---- rows alike

pub wide-alike : (w d : ℕ) (r : List ℕ) → length r ≡ w → Wide w (replicate d r)
unfolding Wide
wide-alike w zero r e = tt
wide-alike w (suc d) r e = (e, wide-alike w d r e)

-- one row more, behind d of them
pub rows_next : (w d start at : ℕ) (r r' s s' : List ℕ) → length r ≡ w → at ≡ start + w * d → r' ≡ r → s' ≡ put start (joined (replicate d r)) s → put at r' s' ≡ put start (joined (replicate (d + 1) r)) s
rows_next w d start at r r' s s' e h p q =
    let rs = replicate d r in
    let l : length (joined rs) ≡ w * d = length-joined w rs (wide-alike w d r e) ∙ ap (λ (k : ℕ). w * k) (length-replicate d r) in
    let more : joined (replicate (d + 1) r) ≡ joined rs ++ r =
    ap joined (sym (replicate-append-replicate d 1 r)) ∙ joined-append rs (r ∷ []) ∙ ap (λ (x : List ℕ). joined rs ++ x) (joined-one r)
    in
    let at-is : at ≡ start + length (joined rs) = omega arith in
    rw (p, q, at-is, more) (sym (put-append start (joined rs) r s))

-- ---- the whole store

-- zeros behind the rows, the header and the rows in front of them
pub store-made : (s y : List ℕ) → length s ≡ store_size → y ≡ replicate (length (take (store_size - entries_begin) (drop entries_begin s))) 0
    → put rows_begin (joined (replicate desks fresh_row)) (put 0 fresh_header (take entries_begin s ++ (y ++ drop (store_size - entries_begin) (drop entries_begin s)))) ≡ fresh_store
unfolding fresh_store
store-made s y e z =
    let rs = joined (replicate desks fresh_row) in
    let rows : length rs ≡ row_width * desks = length-joined row_width (replicate desks fresh_row) (wide-alike row_width desks fresh_row row-length) ∙ ap (λ (k : ℕ). row_width * k) (length-replicate desks fresh_row) in
    put_next fresh_header rs _ rows_begin fresh-length
    ∙ zeros-behind (fresh_header ++ rs) s y entries_begin (store_size - entries_begin) (length-append fresh_header rs ∙ omega (arith, fresh-length)) e z
    ∙ sym (put_next fresh_header rs (replicate store_size 0) rows_begin fresh-length)
