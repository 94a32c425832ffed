-- The lines of the first k records, as the loop writes them. Assumes nothing.
use Prim.Native.Nat.{ℕ, ◌+◌, ◌*◌, ◌-◌, ◌/◌, ◌≤◌, ◌<◌}
use mathlib.Core.Path.{◌≡◌, refl, sym, ap, ◌∙◌}
use mathlib.Core.List.{List, [], ◌∷◌, ◌++◌, map, map-append}
use native.Mathlib.Numerals.{add-one}
use native.Mathlib.Nat.{mul-suc, mul-le-mul_left, add-zero, mul_comm, div-lt_iff_lt-mul, le-div_iff_mul-le}
use native.Mathlib.Omega.{arith}
use lib.ListN.{length, take, drop, length-take, length-drop, length-map}
use lib.Seq.{drop-drop}
use Rattle.octets.specs.Parts.{part, put, rows, joined}
use Rattle.octets.proofs.Joins.{put_next}
use Rattle.octets.proofs.Lent.{put-lent}
use Rattle.octets.proofs.Rows.{Wide, rows-length, rows-wide, rows_snoc, joined-append, joined-one, length-joined}
use Rattle.table.specs.Entries.{record_width}
use Rattle.rules.specs.Records.{records_for}
use Rattle.rules.specs.Line.{line}
use Rattle.pieces.specs.Pieces.{width_of}
use Rattle.pieces.proofs.Widths.{line-length}
use Rattle.lines.specs.Lines.{records_in, lines_of}

-- ---- room

-- one line more than k is no more than m
pub turn-room : (n k m : ℕ) → k < m → n * k + n ≤ n * m
turn-room n k m h = rw mul-suc at (mul-le-mul_left n h)

-- a room by how many lines fit in it
pub room-short : (room n m : ℕ) → 0 < n → room / n < m → room < n * m
room-short room n m p h = rw (mul_comm n m) ((div-lt_iff_lt-mul p).0 h)

pub room-enough : (room n m : ℕ) → 0 < n → m ≤ room / n → n * m ≤ room
room-enough room n m p h = rw (mul_comm n m) ((le-div_iff_mul-le p).0 h)

pub records-length : (sent : List ℕ) → length (records_in sent) ≡ records_for (length sent)
unfolding records_in
records-length sent = rows-length _ _ _

-- all records lie in what was sent
pub records-fit : (sent : List ℕ) (k : ℕ) → k ≤ length (records_in sent) → record_width * k ≤ length sent - 2
unfolding records_for
records-fit sent k h = omega (arith, records-length sent)

-- ---- the first k lines

wide-map : (w v : ℕ) (f : List ℕ → List ℕ) → ((e : List ℕ) → length e ≡ w → length (f e) ≡ v) → (es : List (List ℕ)) → Wide w es → Wide v (map f es)
unfolding Wide
wide-map w v f h [] p = tt
wide-map w v f h (e ∷ es) p = (h e p.0, wide-map w v f h es p.1)

module _ (block sent : List ℕ) where
  unfoldable pub first_lines : ℕ → List ℕ
  first_lines k = joined (map (line block) (rows k record_width (drop 2 sent)))

  pub none_first : first_lines 0 ≡ []
  unfolding first_lines rows joined
  none_first = refl

  pub all_first : (m : ℕ) → m ≡ length (records_in sent) → first_lines m ≡ lines_of block sent
  unfolding first_lines lines_of records_in
  all_first m e = rw (e ∙ rows-length _ _ _)

  pub first-length : (k : ℕ) → k ≤ length (records_in sent) → length (first_lines k) ≡ width_of block * k
  unfolding first_lines
  first-length k h =
      let es = rows k record_width (drop 2 sent) in
      let wide : Wide record_width es = rows-wide k record_width (drop 2 sent) (simp length-drop (records-fit sent k h)) in
      length-joined (width_of block) (map (line block) es) (wide-map record_width (width_of block) (line block) (λ e q. line-length block e (omega arith)) es wide)
      ∙ ap (λ (n : ℕ). width_of block * n) (length-map es (line block) ∙ rows-length k record_width (drop 2 sent))

  pub all-length : (m : ℕ) → m ≡ length (records_in sent) → length (lines_of block sent) ≡ width_of block * m
  all-length m e = ap length (sym (all_first m e)) ∙ first-length m (omega arith)

  pub first_more : (k : ℕ) → first_lines (k + 1) ≡ first_lines k ++ line block (take record_width (drop (2 + record_width * k) sent))
  unfolding first_lines part
  first_more k = rw (add-one k, rows_snoc, map-append, joined-append, joined-one, drop-drop)

  -- a line written into what is left behind the last
  pub line-turn : (k at room wide : ℕ) (ys out out₀ : List ℕ) → k < length (records_in sent) → wide ≡ record_width → at ≡ width_of block * k → at + room ≤ length out → width_of block ≤ room
      → out ≡ put 0 (first_lines k) out₀ → ys ≡ put 0 (line block (take wide (drop (2 + record_width * k) sent))) (take room (drop at out))
      → take at out ++ (ys ++ drop room (drop at out)) ≡ put 0 (first_lines (k + 1)) out₀
  line-turn k at room wide ys out out₀ h w e r l p q =
      let t = take wide (drop (2 + record_width * k) sent) in
      let long : 12 ≤ length t = simp (length-take, length-drop) (omega (arith, records-fit sent (k + 1) (omega arith))) in
      put-lent at room 0 (line block t) ys out q r (omega (arith, line-length block t long))
      ∙ rw (add-zero at, p, w) (put_next (first_lines k) _ out₀ at (first-length k (omega arith) ∙ sym e))
      ∙ ap (λ (x : List ℕ). put 0 x out₀) (sym (first_more k))
