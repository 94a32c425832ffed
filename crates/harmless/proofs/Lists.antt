-- The numbers that each call of the host side can give, exactly and in rising order, where `demands` has not said it: the line writer 6, 7,
-- typed access 8 (of a record 6, 8), with an output 7 too. Assumes nothing.
use Prim.Native.Nat.{ℕ}
use mathlib.Core.Path.{◌≡◌, refl, ap}
use mathlib.Core.Bool.{true}
use mathlib.Core.List.{List, [], ◌∷◌}
use Rattle.frame.specs.Refusal.{numbers_of, rises}
use Rattle.table.specs.Entries.{record_width}
use Rattle.rules.specs.Config.{block_size}
use Rattle.host_c.specs.Coded.{not_long}
use Rattle.typed.specs.Typed.{other_length, count_refusals, record_refusals}
use Rattle.lines.specs.Lines.{line_refusals, lines_refusals}
use Rattle.fields.specs.Fields.{put_block_refusals, put_timer_refusals, put_sizes_refusals, put_record_refusals}

pub line-numbers : (block text : List ℕ) (room : ℕ) → numbers_of (line_refusals block text room) ≡ 6 ∷ 7 ∷ []
unfolding line_refusals
line-numbers block text room = refl

pub lines-numbers : (block sent : List ℕ) (room : ℕ) → numbers_of (lines_refusals block sent room) ≡ 6 ∷ 6 ∷ 7 ∷ []
unfolding lines_refusals
lines-numbers block sent room = refl

-- of a block, a timer, the sizes
pub typed-numbers : (size : ℕ) (sent : List ℕ) → numbers_of (other_length size sent) ≡ 8 ∷ []
unfolding other_length
typed-numbers size sent = refl

pub count-numbers : (sent : List ℕ) → numbers_of (count_refusals sent) ≡ 8 ∷ []
unfolding count_refusals
count-numbers sent = refl

pub record-numbers : (sent : List ℕ) (i : ℕ) → numbers_of (record_refusals sent i) ≡ 6 ∷ 8 ∷ []
unfolding record_refusals count_refusals
record-numbers sent i = refl

-- the same as numbers in an output
module _ (sent out : List ℕ) where
  pub block-put-numbers : numbers_of (put_block_refusals sent out) ≡ 7 ∷ 8 ∷ []
  unfolding other_length
  block-put-numbers = refl

  pub timer-put-numbers : numbers_of (put_timer_refusals sent out) ≡ 7 ∷ 8 ∷ []
  unfolding other_length
  timer-put-numbers = refl

  pub sizes-put-numbers : numbers_of (put_sizes_refusals sent out) ≡ 7 ∷ 8 ∷ []
  unfolding other_length
  sizes-put-numbers = refl

  pub record-put-numbers : (i : ℕ) → numbers_of (put_record_refusals sent i out) ≡ 6 ∷ 7 ∷ 8 ∷ []
  unfolding count_refusals
  record-put-numbers i = refl

-- the line writer for C: 6 for a record or a block of another length comes first
module _ (block : List ℕ) where
  pub line-as-numbers : (sighted text : List ℕ) (room : ℕ)
      → numbers_of (not_long record_width sighted ∷ not_long block_size block ∷ line_refusals block text room) ≡ 6 ∷ 6 ∷ 6 ∷ 7 ∷ []
  unfolding not_long line_refusals
  line-as-numbers sighted text room = refl

  pub lines-as-numbers : (sent : List ℕ) (room : ℕ) → numbers_of (not_long block_size block ∷ lines_refusals block sent room) ≡ 6 ∷ 6 ∷ 6 ∷ 7 ∷ []
  unfolding not_long lines_refusals
  lines-as-numbers sent room = refl

-- ---- and they rise

pub line-rises : (block text : List ℕ) (room : ℕ) → rises (numbers_of (line_refusals block text room)) ≡ true
line-rises block text room = rw (line-numbers block text room)

pub lines-rises : (block sent : List ℕ) (room : ℕ) → rises (numbers_of (lines_refusals block sent room)) ≡ true
lines-rises block sent room = rw (lines-numbers block sent room)

pub typed-rises : (size : ℕ) (sent : List ℕ) → rises (numbers_of (other_length size sent)) ≡ true
typed-rises size sent = ap rises (typed-numbers size sent)

pub count-rises : (sent : List ℕ) → rises (numbers_of (count_refusals sent)) ≡ true
count-rises sent = ap rises (count-numbers sent)

module _ (sent out : List ℕ) where
  pub block-put-rises : rises (numbers_of (put_block_refusals sent out)) ≡ true
  block-put-rises = ap rises (block-put-numbers sent out)

  pub timer-put-rises : rises (numbers_of (put_timer_refusals sent out)) ≡ true
  timer-put-rises = ap rises (timer-put-numbers sent out)

  pub sizes-put-rises : rises (numbers_of (put_sizes_refusals sent out)) ≡ true
  sizes-put-rises = ap rises (sizes-put-numbers sent out)

pub line-as-rises : (block sighted text : List ℕ) (room : ℕ)
    → rises (numbers_of (not_long record_width sighted ∷ not_long block_size block ∷ line_refusals block text room)) ≡ true
line-as-rises block sighted text room = ap rises (line-as-numbers block sighted text room)

pub lines-as-rises : (block sent : List ℕ) (room : ℕ) → rises (numbers_of (not_long block_size block ∷ lines_refusals block sent room)) ≡ true
lines-as-rises block sent room = ap rises (lines-as-numbers block sent room)

pub record-rises : (sent : List ℕ) (i : ℕ) → rises (numbers_of (record_refusals sent i)) ≡ true
record-rises sent i = rw (record-numbers sent i)

pub record-put-rises : (sent out : List ℕ) (i : ℕ) → rises (numbers_of (put_record_refusals sent i out)) ≡ true
record-put-rises sent out i = ap rises (record-put-numbers sent out i)
