-- How the answers of the calls become numbers of 64 bits: each kind of answer has a range of its own; and a number that C passes for an
-- octet. Assumes nothing.
use Rattle.std.specs.Prelude.{ℕ, ◌+◌, ◌*◌, ◌^◌, ◌≤◌, ◌<◌, cond, List, [], ◌∷◌, length, get_or, ltb, Result, Ok, Err}
use Rattle.frame.specs.declared.Refusal.{Refusal}
use Rattle.frame.specs.Refusal.{number_of}
use Rattle.rules.specs.declared.Seen.{Seen}
use Rattle.rules.specs.declared.Seen.TheVariants.{Ignored, Lost, Recorded}

-- ---- the ranges

-- where a range begins, and how many numbers it has
pub record Range : Type 0 where
  pub from : ℕ
  pub count : ℕ

abbrev pub range : ℕ → ℕ → Range
range n k = record { from = n; count = k }

abbrev pub In : Range → ℕ → Type 0
In r n = (r.from ≤ n) × (n < r.from + r.count)

-- done, and there is nothing to say; a refusal by the paper's number
abbrev pub done : Range
done = range 0 1

abbrev pub refused : Range
refused = range 1 63

-- a sighting: recorded, lost; ignored, with the ticks left
abbrev pub sighted : Range
sighted = range 64 2

abbrev pub ignored : Range
ignored = range (2 ^ 16) (2 ^ 16)

-- what the reader found: status * 2^24 + start * 2^16 + len
abbrev pub told : Range
told = range (2 ^ 32) (2 ^ 32)

-- how many octets were written
abbrev pub written : Range
written = range (2 ^ 63) (2 ^ 63)

-- set aside, and given by no call yet. A question: the number of the sighting that it asks about * 2^8 + the place of the latest record,
-- 0 for none
abbrev pub asked : Range
asked = range (2 * 2 ^ 32) (2 ^ 32)

-- a lookup: the place of the record, 0 for none
abbrev pub found : Range
found = range (3 * 2 ^ 32) (2 ^ 32)

-- the checker: all agrees; entry * 2^16 + octet that differs; refusal 9 with its place in the file
abbrev pub agrees : Range
agrees = range (4 * 2 ^ 32) 1

abbrev pub differs : Range
differs = range (5 * 2 ^ 32) (2 ^ 32)

abbrev pub misfiled : Range
misfiled = range (6 * 2 ^ 32) (2 ^ 32)

-- the receiver, each with how many octets it took: waits; a frame of n octets, n * 2^32; dropped with a number, number * 2^32
abbrev pub waits : Range
waits = range (2 ^ 48) (2 ^ 32)

abbrev pub complete : Range
complete = range (2 * 2 ^ 48) (2 ^ 48)

abbrev pub dropped : Range
dropped = range (3 * 2 ^ 48) (2 ^ 48)

abbrev pub ranges : List Range
ranges = done ∷ refused ∷ sighted ∷ ignored ∷ told ∷ asked ∷ found ∷ agrees ∷ differs ∷ misfiled ∷ waits ∷ complete ∷ dropped ∷ written ∷ []

abbrev pub range_count : ℕ
range_count = length ranges

abbrev pub range_at : ℕ → Range
range_at i = get_or ranges i done

-- ---- the numbers; of an answer of the box `code_of` (depot_c/specs/Coded.antt), of the reader `read_code` (host_c/specs/Coded.antt)

-- what a sighting came to
abbrev pub seen_code : Seen → ℕ
seen_code Recorded = sighted.from
seen_code Lost = sighted.from + 1
seen_code (Ignored left) = ignored.from + left

-- the maker and the line writer
abbrev pub written_code : Result ℕ Refusal → ℕ
written_code (Err r) = number_of r
written_code (Ok n) = written.from + n

-- ---- what C passes

-- an antenna mask and a control byte are one octet each; a larger number is as 0, which is no mask and no command
unfoldable pub octet_of : ℕ → ℕ
octet_of n = cond (ltb n 256) n 0
