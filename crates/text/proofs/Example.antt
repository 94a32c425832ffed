-- The paper's example of a listing, and one with each wrong length, computed. Assumes nothing.
use Prim.Native.Nat.{ℕ}
use mathlib.Core.Path.{◌≡◌, refl}
use mathlib.Core.List.{List, [], ◌∷◌, ◌++◌}
use lib.ListN.{replicate}
use Rattle.rules.proofs.Computed.{computed}
use Rattle.digits.specs.Digits.{between, is_hex, value_of, octets_of, last_digits, places_of, decimal_of}
use Rattle.text.specs.Listing.{odd, is_tick, is_sighting, sighting_of, other_line, line_of, number_line, refused_line, hex_line, seen_line, ok_line, not_read_line}
use Rattle.text.specs.Whole.{lf, last_line, lines_from, answer_line, answer_to, said, printed_from, listing}

-- opens every definition of rules and listing
unfoldable printed_out : Unit {0}
unfolding
    computed between is_hex value_of octets_of last_digits places_of decimal_of odd is_tick is_sighting sighting_of other_line line_of number_line refused_line hex_line
    seen_line ok_line not_read_line last_line lines_from answer_line answer_to said printed_from listing
printed_out = tt

-- `refused ` and these digits
abbrev refused_as : List ℕ → List ℕ
refused_as digits = (0x72 ∷ 0x65 ∷ 0x66 ∷ 0x75 ∷ 0x73 ∷ 0x65 ∷ 0x64 ∷ 0x20 ∷ []) ++ digits ++ (lf ∷ [])

-- an empty line, `0500640000`, `050064AC25`, `t`, and how it ends
abbrev pub input : List ℕ → List ℕ
input end =
    (lf ∷ [])
    ++ (0x30 ∷ 0x35 ∷ 0x30 ∷ 0x30 ∷ 0x36 ∷ 0x34 ∷ 0x30 ∷ 0x30 ∷ 0x30 ∷ 0x30 ∷ lf ∷ [])
    ++ (0x30 ∷ 0x35 ∷ 0x30 ∷ 0x30 ∷ 0x36 ∷ 0x34 ∷ 0x41 ∷ 0x43 ∷ 0x32 ∷ 0x35 ∷ lf ∷ [])
    ++ (0x74 ∷ end)

-- `refused 3`, `refused 4`, `060064008E4A`, `ok`
abbrev pub output : List ℕ
output =
    refused_as (0x33 ∷ [])
    ++ refused_as (0x34 ∷ [])
    ++ (0x30 ∷ 0x36 ∷ 0x30 ∷ 0x30 ∷ 0x36 ∷ 0x34 ∷ 0x30 ∷ 0x30 ∷ 0x38 ∷ 0x45 ∷ 0x34 ∷ 0x41 ∷ lf ∷ [])
    ++ (0x6F ∷ 0x6B ∷ lf ∷ [])

-- also where the last line has no LF
pub papers-example : (listing (input (lf ∷ [])) ≡ output) × (listing (input []) ≡ output)
unfolding printed_out
papers-example = (refl, refl)

-- ---- document 02 (i)

-- an empty line, `04006400`, 256 octets of 0, `040064AC25`: `refused 3`, `refused 31`, `refused 32`, `refused 33`
pub lengths-printed : listing ((lf ∷ []) ++ (0x30 ∷ 0x34 ∷ 0x30 ∷ 0x30 ∷ 0x36 ∷ 0x34 ∷ 0x30 ∷ 0x30 ∷ lf ∷ []) ++ replicate 512 0x30 ++ (lf ∷ [])
    ++ (0x30 ∷ 0x34 ∷ 0x30 ∷ 0x30 ∷ 0x36 ∷ 0x34 ∷ 0x41 ∷ 0x43 ∷ 0x32 ∷ 0x35 ∷ lf ∷ []))
    ≡ refused_as (0x33 ∷ []) ++ refused_as (0x33 ∷ 0x31 ∷ []) ++ refused_as (0x33 ∷ 0x32 ∷ []) ++ refused_as (0x33 ∷ 0x33 ∷ [])
unfolding printed_out
lengths-printed = refl
