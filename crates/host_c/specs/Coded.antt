-- What each call of the host side owes its reader: the number of an answer, and what every lent octet then holds. Assumes nothing.
use Rattle.std.specs.Prelude.{ℕ, ◌+◌, ◌*◌, ◌^◌, ◌≡◌, Bool, not, List, ◌∷◌, length, eqb, Result}
use Rattle.octets.specs.Tests.{first}
use Rattle.frame.specs.declared.Refusal.{Refusal}
use Rattle.frame.specs.Finding.{Finding, refused, found}
use Rattle.timer.specs.Clock.{timer_from}
use Rattle.table.specs.Entries.{record_width}
use Rattle.rules.specs.Config.{block_size}
use Rattle.rules.specs.Output.{Wrote}
use Rattle.rules.specs.Line.{line}
use Rattle.requests.specs.declared.Request.{Request}
use Rattle.requests.specs.Request.{request_frame}
use Rattle.maker.specs.Maker.{maker_refusals}
use Rattle.reader.specs.declared.Told.{Told}
use Rattle.typed.specs.Typed.{sighting_at, sizes_from}
use Rattle.lines.specs.Lines.{line_refusals, lines_of, lines_refusals}
use Rattle.fields.specs.Fields.{timer_fields, sizes_fields, record_fields, put_block_refusals, put_timer_refusals, put_sizes_refusals, put_record_refusals}
use Rattle.codes.specs.Codes.{told, written_code}

-- the number of what the reader found
abbrev pub read_code : Finding Told → ℕ
read_code (refused n) = n
read_code (found t) = told.from + t.status * 2 ^ 24 + t.start * 2 ^ 16 + t.len

-- octets or numbers in a lent output: the first test that is given refuses, and nothing is written; else t stands at the start
pub record WroteAs (tests : List (ℕ × Bool)) (t out : List ℕ) (n : ℕ) (out' : List ℕ) : Type 0 where
  pub answer : Result ℕ Refusal
  pub code : n ≡ written_code answer
  pub wrote : Wrote (first tests) t out answer out'

-- the maker: `wrote` is then `Requested q out answer out'` of the host side
abbrev pub FramedAs : Request → List ℕ → ℕ → List ℕ → Type 0
FramedAs q out n out' = WroteAs (maker_refusals q (length out)) (request_frame q) out n out'

-- 6: octets of another length than they should have are an argument out of range
unfoldable pub not_long : ℕ → List ℕ → ℕ × Bool
not_long size s = (6, not (eqb (length s) size))

-- the line writer: a block of another length is refused; then what `AllLined` of the line writer refuses
abbrev pub lines_tests : List ℕ → List ℕ → List ℕ → List (ℕ × Bool)
lines_tests block sent out = not_long block_size block ∷ lines_refusals block sent (length out)

abbrev pub LinesWrote : List ℕ → List ℕ → List ℕ → Result ℕ Refusal → List ℕ → Type 0
LinesWrote block sent out a out' = Wrote (first (lines_tests block sent out)) (lines_of block sent) out a out'

abbrev pub LinesAs : List ℕ → List ℕ → List ℕ → ℕ → List ℕ → Type 0
LinesAs block sent out n out' = WroteAs (lines_tests block sent out) (lines_of block sent) out n out'

-- of one line: a record of another length is refused, then a block, then what `Lined` refuses
abbrev pub line_tests : List ℕ → List ℕ → List ℕ → List (ℕ × Bool)
line_tests block sighted out = not_long record_width sighted ∷ not_long block_size block ∷ line_refusals block (line block sighted) (length out)

abbrev pub LineWrote : List ℕ → List ℕ → List ℕ → Result ℕ Refusal → List ℕ → Type 0
LineWrote block sighted out a out' = Wrote (first (line_tests block sighted out)) (line block sighted) out a out'

abbrev pub LineAs : List ℕ → List ℕ → List ℕ → ℕ → List ℕ → Type 0
LineAs block sighted out n out' = WroteAs (line_tests block sighted out) (line block sighted) out n out'

-- what the data of a reply say: a block's bytes; a timer; the sizes; record i
abbrev pub BlockAs : List ℕ → List ℕ → ℕ → List ℕ → Type 0
BlockAs sent out n out' = WroteAs (put_block_refusals sent out) sent out n out'

abbrev pub TimerAs : List ℕ → List ℕ → ℕ → List ℕ → Type 0
TimerAs sent out n out' = WroteAs (put_timer_refusals sent out) (timer_fields (timer_from sent)) out n out'

abbrev pub SizesAs : List ℕ → List ℕ → ℕ → List ℕ → Type 0
SizesAs sent out n out' = WroteAs (put_sizes_refusals sent out) (sizes_fields (sizes_from sent)) out n out'

abbrev pub RecordAs : List ℕ → ℕ → List ℕ → ℕ → List ℕ → Type 0
RecordAs sent i out n out' = WroteAs (put_record_refusals sent i out) (record_fields (sighting_at sent i)) out n out'
