-- What the data of a reply say, as numbers in a lent output. Assumes nothing.
use Rattle.std.specs.Prelude.{ℕ, ◌≡◌, Bool, List, [], ◌∷◌, length, ltb, leb, Result}
use Rattle.octets.specs.Tests.{first}
use Rattle.timer.specs.declared.Timer.{Timer}
use Rattle.timer.specs.Clock.{timer_from}
use Rattle.frame.specs.declared.Refusal.{Refusal}
use Rattle.frame.specs.Finding.{Finding, finding}
use Rattle.rules.specs.Config.{block_size}
use Rattle.rules.specs.Records.{records_for}
use Rattle.rules.specs.Output.{Wrote}
use Rattle.typed.specs.declared.Sizes.{Sizes}
use Rattle.typed.specs.declared.Sighting.{Sighting}
use Rattle.typed.specs.Typed.{other_length, count_refusals, sighting_at, sizes_from}

-- hour, minute, milliseconds
abbrev pub timer_fields : Timer → List ℕ
timer_fields t = t.hour ∷ t.minute ∷ t.ms ∷ []

-- TAB-SIZE, TAB-START, TAB-LEN
abbrev pub sizes_fields : Sizes → List ℕ
sizes_fields s = s.size ∷ s.start ∷ s.len ∷ []

-- UID, timer, antenna mask
abbrev pub record_fields : Sighting → List ℕ
record_fields s = s.uid ∷ s.timer.hour ∷ s.timer.minute ∷ s.timer.ms ∷ s.mask ∷ []

-- 7: the output has room for fewer than so many
abbrev pub no_room : ℕ → List ℕ → ℕ × Bool
no_room n out = (7, ltb (length out) n)

-- what was told stands at the start of the output, and what stands after it stays; or refused and nothing written, for its room or as the
-- telling refuses, by tests ts that come after that of the room
abbrev pub PutBehindRoom : ℕ → Finding (List ℕ) → List ℕ → Result ℕ Refusal → List ℕ → Type 0
PutBehindRoom n told out a out' = (ts : List (ℕ × Bool)) (t : List ℕ) → told ≡ finding (first ts) t → Wrote (first (no_room n out ∷ ts)) t out a out'

-- refused and nothing written; or at the start of the output, and what stands after it stays: the bytes of a block
abbrev pub put_block_refusals : List ℕ → List ℕ → List (ℕ × Bool)
put_block_refusals sent out = no_room block_size out ∷ other_length block_size sent

abbrev pub BlockPut : List ℕ → List ℕ → Result ℕ Refusal → List ℕ → Type 0
BlockPut sent out a out' = Wrote (first (put_block_refusals sent out)) sent out a out'

-- a timer
abbrev pub put_timer_refusals : List ℕ → List ℕ → List (ℕ × Bool)
put_timer_refusals sent out = no_room 3 out ∷ other_length 4 sent

abbrev pub TimerPut : List ℕ → List ℕ → Result ℕ Refusal → List ℕ → Type 0
TimerPut sent out a out' = Wrote (first (put_timer_refusals sent out)) (timer_fields (timer_from sent)) out a out'

-- the sizes
abbrev pub put_sizes_refusals : List ℕ → List ℕ → List (ℕ × Bool)
put_sizes_refusals sent out = no_room 3 out ∷ other_length 6 sent

abbrev pub SizesPut : List ℕ → List ℕ → Result ℕ Refusal → List ℕ → Type 0
SizesPut sent out a out' = Wrote (first (put_sizes_refusals sent out)) (sizes_fields (sizes_from sent)) out a out'

-- record i; 6: it is beyond the last
abbrev pub put_record_refusals : List ℕ → ℕ → List ℕ → List (ℕ × Bool)
put_record_refusals sent i out = (6, leb (records_for (length sent)) i) ∷ no_room 5 out ∷ count_refusals sent

abbrev pub RecordPut : List ℕ → ℕ → List ℕ → Result ℕ Refusal → List ℕ → Type 0
RecordPut sent i out a out' = Wrote (first (put_record_refusals sent i out)) (record_fields (sighting_at sent i)) out a out'
