-- Demand 1 of the host side: a refusal is the first of the call's list that is given, and a refused call leaves every lent octet.
-- The reader and typed access are lent nothing that they could write. Assumes nothing.
use Rattle.std.specs.Prelude.{Result, Err}
use Prim.Native.Nat.{ℕ}
use mathlib.Core.Path.{◌≡◌, sym, ap, ◌∙◌}
use mathlib.Core.Bool.{Bool}
use mathlib.Core.List.{List}
use mathlib.Core.Option.{Option, some}
use lib.ListN.{length}
use Rattle.octets.specs.Tests.{first}
use Rattle.frame.specs.declared.Refusal.{Refusal}
use Rattle.frame.specs.Refusal.{number_of}
use Rattle.frame.specs.Finding.{finding, verdict_of}
use Rattle.frame.proofs.Finding.{finding-refused}
use Rattle.rules.specs.Config.{block_size}
use Rattle.rules.proofs.Output.{wrote-refused}
use Rattle.requests.specs.declared.Request.{Request}
use Rattle.maker.specs.Maker.{maker_refusals, Requested}
use Rattle.timer.specs.declared.Timer.{Timer}
use Rattle.reader.specs.declared.Told.{Told}
use Rattle.reader.specs.Reader.{reader_refusals, read_as}
use Rattle.typed.specs.declared.Sizes.{Sizes}
use Rattle.typed.specs.declared.Sighting.{Sighting}
use Rattle.typed.specs.Typed.{other_length, block_told, timer_told, sizes_told, count_refusals, count_told, record_refusals, record_told}
use Rattle.lines.specs.Lines.{line_refusals, Lined, lines_refusals, AllLined}
use Rattle.fields.specs.Fields.{put_block_refusals, BlockPut, put_timer_refusals, TimerPut, put_sizes_refusals, SizesPut, put_record_refusals, RecordPut}

-- ---- octets and numbers in a lent output

module _ (out : List ℕ) (a : Result ℕ Refusal) (out' : List ℕ) (r : Refusal) (e : a ≡ Err r) where
  abbrev Harmless : List (ℕ × Bool) → Type 0
  Harmless ts = (first ts ≡ some (number_of r)) × (out' ≡ out)

  pub maker-harmless : (q : Request) → Requested q out a out' → Harmless (maker_refusals q (length out))
  maker-harmless q w = wrote-refused _ _ out a out' r w e

  pub line-harmless : (block text : List ℕ) → Lined block text out a out' → Harmless (line_refusals block text (length out))
  line-harmless block text w = wrote-refused _ _ out a out' r w e

  pub lines-harmless : (block sent : List ℕ) → AllLined block sent out a out' → Harmless (lines_refusals block sent (length out))
  lines-harmless block sent w = wrote-refused _ _ out a out' r w e

  pub block-harmless : (sent : List ℕ) → BlockPut sent out a out' → Harmless (put_block_refusals sent out)
  block-harmless sent w = wrote-refused _ _ out a out' r w e

  pub timer-harmless : (sent : List ℕ) → TimerPut sent out a out' → Harmless (put_timer_refusals sent out)
  timer-harmless sent w = wrote-refused _ _ out a out' r w e

  pub sizes-harmless : (sent : List ℕ) → SizesPut sent out a out' → Harmless (put_sizes_refusals sent out)
  sizes-harmless sent w = wrote-refused _ _ out a out' r w e

  pub record-harmless : (sent : List ℕ) (i : ℕ) → RecordPut sent i out a out' → Harmless (put_record_refusals sent i out)
  record-harmless sent i w = wrote-refused _ _ out a out' r w e

-- ---- what is found in octets

found-harmless : {A : Type 0} (o : Option ℕ) (x : A) (a : Result A Refusal) (r : Refusal) → verdict_of a ≡ finding o x → a ≡ Err r → o ≡ some (number_of r)
found-harmless o x a r w e = finding-refused o x (number_of r) (sym (ap verdict_of e) ∙ w)

-- what is read
pub reader-harmless : (q : Request) (s : List ℕ) (a : Result Told Refusal) (r : Refusal) → verdict_of a ≡ read_as q s → a ≡ Err r → first (reader_refusals q s) ≡ some (number_of r)
unfolding read_as
reader-harmless q s a r w e = found-harmless _ _ a r w e

-- what is told typed
module _ (sent : List ℕ) (r : Refusal) where
  pub block-told-harmless : (a : Result (List ℕ) Refusal) → verdict_of a ≡ block_told sent → a ≡ Err r → first (other_length block_size sent) ≡ some (number_of r)
  unfolding block_told
  block-told-harmless a w e = found-harmless _ _ a r w e

  pub timer-told-harmless : (a : Result Timer Refusal) → verdict_of a ≡ timer_told sent → a ≡ Err r → first (other_length 4 sent) ≡ some (number_of r)
  unfolding timer_told
  timer-told-harmless a w e = found-harmless _ _ a r w e

  pub sizes-told-harmless : (a : Result Sizes Refusal) → verdict_of a ≡ sizes_told sent → a ≡ Err r → first (other_length 6 sent) ≡ some (number_of r)
  unfolding sizes_told
  sizes-told-harmless a w e = found-harmless _ _ a r w e

  pub count-told-harmless : (a : Result ℕ Refusal) → verdict_of a ≡ count_told sent → a ≡ Err r → first (count_refusals sent) ≡ some (number_of r)
  unfolding count_told
  count-told-harmless a w e = found-harmless _ _ a r w e

  pub record-told-harmless : (i : ℕ) (a : Result Sighting Refusal) → verdict_of a ≡ record_told sent i → a ≡ Err r → first (record_refusals sent i) ≡ some (number_of r)
  unfolding record_told
  record-told-harmless i a w e = found-harmless _ _ a r w e
