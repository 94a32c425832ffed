-- Scan lines in a lent output: when they are refused, and what is written. Assumes nothing.
use Rattle.std.specs.Prelude.{ℕ, Bool, not, List, [], ◌∷◌, map, length, drop, ltb, Result}
use Rattle.octets.specs.Tests.{first}
use Rattle.octets.specs.Parts.{rows, joined}
use Rattle.table.specs.Entries.{record_width}
use Rattle.frame.specs.declared.Refusal.{Refusal}
use Rattle.rules.specs.Config.{line_legal}
use Rattle.rules.specs.Records.{records_for}
use Rattle.rules.specs.Output.{Wrote}
use Rattle.rules.specs.Line.{line}
use Rattle.typed.specs.Typed.{read_data}

-- the line writer can meet 6, 7, in rising number: block 7 breaks the rules; the text has no room
unfoldable pub line_refusals : List ℕ → List ℕ → ℕ → List (ℕ × Bool)
line_refusals block text room = (6, not (line_legal block)) ∷ (7, ltb room (length text)) ∷ []

-- refused and nothing written; or the text at the start of the output, and the octets after it stay
abbrev pub Lined : List ℕ → List ℕ → List ℕ → Result ℕ Refusal → List ℕ → Type 0
Lined block text out a out' = Wrote (first (line_refusals block text (length out))) text out a out'

-- ---- of many records

-- the records that the data of a 0x22 reply carry, behind their count
unfoldable pub records_in : List ℕ → List (List ℕ)
records_in sent = rows (records_for (length sent)) record_width (drop 2 sent)

-- a line for each, one after the other
unfoldable pub lines_of : List ℕ → List ℕ → List ℕ
lines_of block sent = joined (map (line block) (records_in sent))

-- 6 also for data that no reply to 0x22 carries
unfoldable pub lines_refusals : List ℕ → List ℕ → ℕ → List (ℕ × Bool)
lines_refusals block sent room = (6, not (line_legal block)) ∷ (6, not (read_data sent)) ∷ (7, ltb room (length (lines_of block sent))) ∷ []

-- all lines, or none
abbrev pub AllLined : List ℕ → List ℕ → List ℕ → Result ℕ Refusal → List ℕ → Type 0
AllLined block sent out a out' = Wrote (first (lines_refusals block sent (length out))) (lines_of block sent) out a out'
