-- A legal box with login and mark 0 or 1, tested row by row; and the records of a store of octets are legal. Assumes nothing.
use Prim.Native.Nat.{ℕ, zero, suc, ◌+◌, ◌<◌}
use mathlib.Core.Path.{◌≡◌, refl, sym, ap, ◌∙◌}
use mathlib.Core.Bool.{Bool, true, false, cond, ◌&&◌}
use mathlib.Core.List.{List, [], ◌∷◌}
use native.Mathlib.Nat.{add-zero, zero-add, add-suc, suc-add}
use native.Mathlib.Omega.{arith}
use lib.Dec.{eqb, lit<}
use lib.ListN.{length, get_or, length-drop}
use borrow.Author.Tests.{eq-eqb}
use Rattle.octets.specs.Tests.{every, all_of}
use Rattle.octets.specs.Each.{All, Octet}
use Rattle.octets.specs.Numbers.{Octets}
use Rattle.octets.proofs.Tests.{both, and_both, and_assoc}
use Rattle.octets.proofs.Every.{every-at, every-all}
use Rattle.octets.proofs.Each.{octets-each, all_drop, all-test}
use Rattle.octets.proofs.Numbers.{octets-part}
use Rattle.octets.proofs.Rows.{Wide, rows-wide, rows-octets, rows-length}
use Rattle.table.specs.Entries.{width, desks, owner, body, entries, records_of, owners_below}
use Rattle.rules.specs.Legal.{record_legal, desk_legal, box_legal}
use Rattle.rules.proofs.Facts.{RecordLegal, record-test}
use Rattle.store.specs.Layout.{store_size, row_width, rows_area, entries_area, size_of, header, start_of, used_of, area}
use Rattle.store.specs.View.{desk_in, box_from, rows_in, entries_in, in_use, view_of}
use Rattle.store.specs.Sound.{flags_right, contents}
use Rattle.store.proofs.Places.{Fine}
use Rattle.store.proofs.LentAreas.{area-size, areas-at, areas-header}
use Rattle.store.proofs.Boxes.{box-length}
use Rattle.store.proofs.RowTests.{same_test}
use Rattle.soundness.specs.Tested.{row_sound}

-- ---- row by row

-- both tests over the rows; row i
abbrev whole : ℕ → List (List ℕ) → List (List ℕ) → Bool
whole k rs es = all_of flags_right rs && all_of desk_legal (box_from k rs es)

abbrev row_alone : ℕ → List (List ℕ) → List (List ℕ) → ℕ → Bool
row_alone k rs es i = row_sound (get_or rs i []) (records_of (k + i) es)

whole-rows : (k : ℕ) (rs es : List (List ℕ)) → whole k rs es ≡ true → (i : ℕ) → i < length rs → row_alone k rs es i ≡ true
unfolding all_of box_from row_sound
whole-rows k [] es e i l = absurd (omega arith)
whole-rows k (r ∷ rs) es e i l =
    let p = both (flags_right r && all_of flags_right rs) _ e in
    let f = both (flags_right r) (all_of flags_right rs) p.0 in
    let d = both (desk_legal (desk_in r (records_of k es))) (all_of desk_legal (box_from (suc k) rs es)) p.1 in
    go i l f.0 d.0 (whole-rows (suc k) rs es (and_both _ _ f.1 d.1))
  where
    go : (i : ℕ) → i < length (r ∷ rs) → flags_right r ≡ true → desk_legal (desk_in r (records_of k es)) ≡ true
        → ((i : ℕ) → i < length rs → row_alone (suc k) rs es i ≡ true) → row_alone k (r ∷ rs) es i ≡ true
    go zero l f d h = rw (add-zero, f, d)
    go (suc i) l f d h = rw (add-suc, ← suc-add) (h i (omega arith))

rows_whole : (k : ℕ) (rs es : List (List ℕ)) → ((i : ℕ) → i < length rs → row_alone k rs es i ≡ true) → whole k rs es ≡ true
unfolding all_of box_from row_sound
rows_whole k [] es h = refl
rows_whole k (r ∷ rs) es h =
    let one = both (flags_right r) (desk_legal (desk_in r (records_of k es))) (rw add-zero at (h 0 (omega arith))) in
    let rest = both (all_of flags_right rs) (all_of desk_legal (box_from (suc k) rs es)) (rows_whole (suc k) rs es (λ i l. rw (add-suc, ← suc-add) at (h (suc i) (omega arith)))) in
    rw (one.0, one.1, rest.0) rest.1

-- ---- a store

abbrev pub desk_sound : List (List ℕ) → List (List ℕ) → ℕ → Bool
desk_sound rs es d = row_sound (get_or rs d []) (records_of d es)

pub contents-is : (all : List (List ℕ)) → contents all ≡ owners_below desks (entries_in all) && every desks (desk_sound (rows_in all) (entries_in all))
unfolding contents box_legal view_of
contents-is all =
    let rs = rows_in all in
    let es = entries_in all in
    let n : length rs ≡ desks = rows-length desks row_width (get_or all rows_area []) in
    rw (eq-eqb (length (box_from 0 rs es)) desks (box-length 0 rs es ∙ n))
    (sym (and_assoc (owners_below desks es) (all_of flags_right rs) (all_of desk_legal (box_from 0 rs es)))
    ∙ ap (λ (b : Bool). owners_below desks es && b)
    (same_test (whole 0 rs es) (every desks (desk_sound rs es))
    (λ e. every-all desks (desk_sound rs es) (λ d l. rw zero-add at (whole-rows 0 rs es e d (omega arith))))
    (λ e. rows_whole 0 rs es (λ d l. rw zero-add (every-at desks (desk_sound rs es) d e (omega arith))))))

-- ---- the records of a store of octets

records-legal : (d : ℕ) (es : List (List ℕ)) → Wide width es → All Octets es → All RecordLegal (records_of d es)
unfolding records_of Wide
records-legal d [] w o = tt
records-legal d (e ∷ es) w o = go (eqb (owner e) d) (records-legal d es w.1 o.1)
  where
    go : (b : Bool) → All RecordLegal (records_of d es) → All RecordLegal (cond b (body e ∷ records_of d es) (records_of d es))
    go true k = (record { size = length-drop 1 e ∙ omega (arith, w.0); octets = all_drop Octet 1 e (octets-each e o.0) }, k)
    go false k = k

pub records-of : (s : List ℕ) → length s ≡ store_size → Fine (header s) → Octets s → (d : ℕ) → all_of record_legal (records_of d (in_use s)) ≡ true
unfolding area
records-of s size f o d =
    let n = used_of (header s) in
    let a = area s entries_area in
    rw (areas-header s, areas-at s entries_area (lit< tt))
    (all-test record_legal RecordLegal record-test _
    (records-legal d (entries n a)
    (rows-wide n width a (omega (arith, f.used, area-size s size f entries_area (lit< tt))))
    (rows-octets n width a (octets-part (start_of (header s) entries_area) (size_of entries_area) s o))))
