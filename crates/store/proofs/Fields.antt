-- The fields of a row: how long each is, and that a put within one changes that one alone. Assumes nothing.
use Prim.Native.Nat.{ℕ, ◌+◌, ◌≤◌, ◌<◌}
use mathlib.Core.Path.{◌≡◌, refl, sym, ap, ◌∙◌}
use mathlib.Core.Bool.{true}
use mathlib.Core.List.{List, []}
use native.Mathlib.Nat.{add-zero}
use native.Mathlib.Omega.{arith}
use lib.ListN.{length, get_or, set}
use lib.Dec.{leb}
use borrow.Author.Tests.{leb-true}
use Rattle.octets.specs.Tests.{every}
use Rattle.octets.specs.Parts.{put, Apart}
use Rattle.octets.specs.Areas.{clear, change}
use Rattle.octets.proofs.Every.{every-at}
use Rattle.octets.proofs.Puts.{part_length, part-put-in, part-put-away, apart-within, put_whole}
use Rattle.octets.proofs.Areas.{clear_apart, upto-at, upto-change}
use Rattle.store.specs.Layout.{row_width}
use Rattle.store.specs.Rows.{field_at, field_size, field, fields, field_count}

-- each field ends within the row, and no two share an octet
fields-end : every field_count (λ k. leb (field_at k + field_size k) row_width) ≡ true
unfolding every
fields-end = refl

fields-clear : clear field_count field_at field_size ≡ true
unfolding every
fields-clear = refl

pub field-ends : (k : ℕ) → k < field_count → field_at k + field_size k ≤ row_width
field-ends k l = leb-true _ _ (every-at field_count _ k fields-end l)

pub fields-apart : (i j : ℕ) → i < field_count → j < field_count → (i ≡ j → ⊥) → Apart (field_at i) (field_size i) (field_at j) (field_size j)
fields-apart = clear_apart field_count field_at field_size fields-clear

pub field-at : (row : List ℕ) (k : ℕ) → k < field_count → get_or (fields row) k [] ≡ field row k
unfolding fields
field-at row k l = upto-at field_count (field row) k l

module _ (row : List ℕ) (size : length row ≡ row_width) where
  pub field-length : (k : ℕ) → k < field_count → length (field row k) ≡ field_size k
  unfolding field
  field-length k l = part_length (field_at k) (field_size k) row (omega (arith, field-ends k l))

  -- a put within field k
  pub fields-into : (k o : ℕ) (xs : List ℕ) → k < field_count → o + length xs ≤ field_size k → fields (put (field_at k + o) xs row) ≡ change k (put o xs) (fields row)
  unfolding field fields
  fields-into k o xs less h =
      upto-change field_count (field row) (field (put (field_at k + o) xs row)) k (put o xs) less
      (part-put-in (field_at k) (field_size k) o xs row h)
      (λ j l n. part-put-away (field_at j) (field_size j) (field_at k + o) xs row (within j (fields-apart k j less l n)))
    where
      within : (j : ℕ) → Apart (field_at k) (field_size k) (field_at j) (field_size j) → Apart (field_at k + o) (length xs) (field_at j) (field_size j)
      within j a = apart-within (field_at k) (field_size k) (field_at j) (field_size j) _ _ _ _ a (omega arith) (omega arith) (omega arith) (omega arith)

  -- a put of the whole field k
  pub fields-over : (k : ℕ) (xs : List ℕ) → k < field_count → length xs ≡ field_size k → fields (put (field_at k) xs row) ≡ change k (λ _. xs) (fields row)
  fields-over k xs less h =
      ap (λ (at : ℕ). fields (put at xs row)) (sym (add-zero (field_at k)))
      ∙ fields-into k 0 xs less (omega arith)
      ∙ ap (set (fields row) k) (put_whole xs (get_or (fields row) k []) (h ∙ sym (rw (field-at row k less) (field-length k less))))
