-- A store laid out as the fresh one is, for any rows and entries: the header, the rows right behind it, the entries behind the rows.
-- What lies in its areas, when it is sound, and what it says. Assumes nothing.
use Prim.Native.Nat.{ℕ, ◌+◌, ◌*◌, ◌≤◌, ◌<◌}
use mathlib.Core.Path.{◌≡◌, refl, sym, ap, ap₂, ◌∙◌}
use mathlib.Core.Bool.{true}
use mathlib.Core.Logic.{inr}
use mathlib.Core.List.{List}
use native.Mathlib.Nat.{add-zero}
use native.Mathlib.Omega.{arith}
use lib.Dec.{lit<, lit≤}
use lib.ListN.{length, replicate, length-replicate}
use Rattle.octets.specs.Parts.{part, put, rows, joined}
use Rattle.octets.specs.Numbers.{octets}
use Rattle.octets.specs.Areas.{upto}
use Rattle.octets.specs.Each.{All, Octet}
use Rattle.octets.proofs.Each.{octets-put, octets-number}
use Rattle.octets.proofs.Puts.{put-length, part_length, part-put-away, part-put-in, part-put-same}
use Rattle.octets.proofs.Rows.{Wide, length-joined, rows-joined}
use Rattle.table.specs.Entries.{width, desks, entry_count, entries, owners_below}
use Rattle.rules.specs.Legal.{octet}
use Rattle.rules.proofs.Facts.{BoxLegal, octets-facts}
use Rattle.rules.proofs.Computed.{computed}
use Rattle.store.specs.Layout.{store_size, row_width, size_of, header, start_of, used_of, area, areas, rows_area, entries_area, area_count, header_size, used_at}
use Rattle.store.specs.View.{box_from, rows_in, entries_in, view_of, view}
use Rattle.store.specs.Sound.{fine, sound}
use Rattle.fresh.specs.Fresh.{rows_begin, entries_begin, fresh_header}
use Rattle.store.proofs.Places.{Fine, fine-facts, start-counted, used-counted, counted-fine}
use Rattle.store.proofs.Changes.{Flagged, sound-test}
use Rattle.fresh.proofs.FreshRows.{fresh-length}

-- ---- the header, with n entries in use

unfoldable pub laid_header : ℕ → List ℕ
laid_header n = put used_at (octets 2 n) fresh_header

fresh-fine : fine fresh_header ≡ true
unfolding computed fresh_header fine start_of used_of
fresh-fine = refl

pub none-used : laid_header 0 ≡ fresh_header
unfolding computed laid_header fresh_header
none-used = refl

fresh-octets : All Octet fresh_header
unfolding computed fresh_header octet
fresh-octets = octets-facts fresh_header refl

rows_start : start_of fresh_header rows_area ≡ rows_begin
unfolding computed fresh_header start_of
rows_start = refl

entries-start : start_of fresh_header entries_area ≡ entries_begin
unfolding computed fresh_header start_of
entries-start = refl

header-length : (n : ℕ) → length (laid_header n) ≡ header_size
unfolding laid_header
header-length n = put-length used_at (octets 2 n) fresh_header ∙ fresh-length

-- ---- rows of one width, put where a part begins

rows-put-in : (at n w : ℕ) (es : List (List ℕ)) (s : List ℕ) → Wide w es → w * length es ≤ n → at + n ≤ length s → rows (length es) w (part at n (put at (joined es) s)) ≡ es
rows-put-in at n w es s wide fit inside =
    ap (λ (k : ℕ). rows (length es) w (part at n (put k (joined es) s))) (sym (add-zero at))
    ∙ ap (rows (length es) w) (part-put-in at n 0 (joined es) s (omega (arith, length-joined w es wide)))
    ∙ rows-joined w es (part at n s) wide (omega (arith, part_length at n s inside))

-- ---- the store

unfoldable pub laid : List (List ℕ) → List (List ℕ) → List ℕ → List ℕ
laid rs es b = put entries_begin (joined es) (put rows_begin (joined rs) (put 0 (laid_header (length es)) b))

pub laid-octets : (rs es : List (List ℕ)) (b : List ℕ) → All Octet (joined rs) → All Octet (joined es) → All Octet b → All Octet (laid rs es b)
unfolding laid laid_header
laid-octets rs es b p q o =
    octets-put entries_begin (joined es) _ q
    (octets-put rows_begin (joined rs) _ p (octets-put 0 (laid_header (length es)) b (octets-put used_at (octets 2 (length es)) fresh_header (octets-number 2 (length es)) fresh-octets) o))

module _
    (rs es : List (List ℕ))
    (b : List ℕ)
    (size : length b ≡ store_size)
    (count : length rs ≡ desks)
    (long : Wide row_width rs)
    (wide : Wide width es)
    (few : length es ≤ entry_count)
  where
    abbrev headed : List ℕ
    headed = put 0 (laid_header (length es)) b

    abbrev rowed : List ℕ
    rowed = put rows_begin (joined rs) headed

    rows_long : length (joined rs) ≡ row_width * desks
    rows_long = length-joined row_width rs long ∙ ap (λ (n : ℕ). row_width * n) count

    rowed-size : length rowed ≡ store_size
    rowed-size = put-length rows_begin (joined rs) headed ∙ put-length 0 (laid_header (length es)) b ∙ size

    laid-size : length (laid rs es b) ≡ store_size
    unfolding laid
    laid-size = put-length entries_begin (joined es) rowed ∙ rowed-size

    laid-header : header (laid rs es b) ≡ laid_header (length es)
    unfolding header laid
    laid-header =
        part-put-away 0 header_size entries_begin (joined es) rowed (inr (lit≤ tt))
        ∙ part-put-away 0 header_size rows_begin (joined rs) headed (inr (lit≤ tt))
        ∙ ap (λ (n : ℕ). part 0 n headed) (sym (header-length (length es)))
        ∙ part-put-same 0 (laid_header (length es)) b (omega (arith, header-length (length es)))

    start_is : (k at : ℕ) → k < area_count → start_of fresh_header k ≡ at → start_of (header (laid rs es b)) k ≡ at
    unfolding laid_header
    start_is k at l e = ap (λ (h : List ℕ). start_of h k) laid-header ∙ start-counted (length es) fresh_header k l ∙ e

    used-is : used_of (header (laid rs es b)) ≡ length es
    unfolding laid_header
    used-is = ap used_of laid-header ∙ used-counted (length es) fresh_header few fresh-length

    laid-fine : Fine (header (laid rs es b))
    unfolding laid_header
    laid-fine = rw laid-header (counted-fine (length es) fresh_header (fine-facts fresh_header fresh-fine) few fresh-length)

    laid-rows : rows_in (areas (laid rs es b)) ≡ rs
    unfolding areas upto area laid
    laid-rows =
        ap (λ (at : ℕ). rows desks row_width (part at (size_of rows_area) (laid rs es b))) (start_is rows_area rows_begin (lit< tt) rows_start)
        ∙ ap (rows desks row_width) (part-put-away rows_begin (size_of rows_area) entries_begin (joined es) rowed (inr (lit≤ tt)))
        ∙ ap (λ (n : ℕ). rows n row_width (part rows_begin (size_of rows_area) rowed)) (sym count)
        ∙ rows-put-in rows_begin (size_of rows_area) row_width rs headed long (omega arith) (omega (arith, put-length 0 (laid_header (length es)) b))

    laid-entries : entries_in (areas (laid rs es b)) ≡ es
    unfolding areas upto area start_of header laid
    laid-entries =
        ap (λ (n : ℕ). entries n (area (laid rs es b) entries_area)) used-is
        ∙ ap (λ (at : ℕ). entries (length es) (part at (size_of entries_area) (laid rs es b))) (start_is entries_area entries_begin (lit< tt) entries-start)
        ∙ rows-put-in entries_begin (size_of entries_area) width es rowed wide (omega arith) (omega (arith, rowed-size))

    pub laid-says : view (laid rs es b) ≡ box_from 0 rs es
    unfolding view view_of
    laid-says = ap₂ (box_from 0) laid-rows laid-entries

    pub laid-sound : owners_below desks es ≡ true → All Flagged rs → BoxLegal (box_from 0 rs es) → sound (laid rs es b) ≡ true
    laid-sound owners flags legal =
        sound-test (laid rs es b)
        record { size = laid-size; head = laid-fine; owners = rw laid-entries owners; flags = rw laid-rows flags; box = rw laid-says legal }

-- ---- what it is laid out in

unfoldable pub zeros : List ℕ
zeros = replicate store_size 0

pub zeros-size : length zeros ≡ store_size
unfolding zeros
zeros-size = length-replicate {A = ℕ} store_size 0
