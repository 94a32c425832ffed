-- What was sent is told typed: a block, the timer, the sizes, a record, and the sighting that the record is of. Assumes nothing.
use Prim.Native.Nat.{ℕ, ◌+◌, ◌*◌, ◌^◌, ◌≤◌, ◌<◌}
use mathlib.Core.Path.{◌≡◌, refl, sym, ap, ◌∙◌}
use mathlib.Core.Bool.{true, or-true}
use mathlib.Core.List.{List, []}
use native.Mathlib.Nat.{mul_comm}
use native.Mathlib.Omega.{arith}
use lib.ListN.{length, get_or, take}
use lib.Seq.{drop-append-add}
use lib.Dec.{eqb, lit<}
use borrow.Author.Tests.{eq-eqb, lt-ltb, le-leb, lt-leb}
use Rattle.rules.specs.Config.{block_size}
use Rattle.octets.specs.Tests.{first}
use Rattle.octets.specs.Parts.{part, rows, joined}
use Rattle.octets.specs.Numbers.{number, octets, u16_at}
use Rattle.octets.proofs.Numbers.{number-octets}
use Rattle.octets.proofs.Puts.{put_whole}
use Rattle.octets.proofs.Rows.{Wide, rows_at, rows-joined, length-joined}
use Rattle.timer.specs.declared.Timer.{Timer}
use Rattle.timer.specs.Clock.{timer_legal, timer_octets, timer_from}
use Rattle.timer.proofs.Ranges.{timer-facts}
use Rattle.timer.proofs.ReadBack.{timer-length, timer-back}
use Rattle.frame.specs.declared.Kind.{Kind}
use Rattle.frame.specs.Finding.{found}
use Rattle.table.specs.Entries.{record_width, share}
use Rattle.rules.specs.declared.control.TableCommand.TheVariants.{SendTable}
use Rattle.rules.specs.Desk.{Desk}
use Rattle.rules.specs.Records.{record_of, counted}
use Rattle.rules.specs.Command.{result, table_effect}
use Rattle.rules.proofs.Facts.{TableLegal}
use Rattle.typed.specs.Typed.{other_length, block_told, timer_told, sizes_from, sizes_told, read_data, count_refusals, count_told, sighting_from, record_refusals, record_told}
use Rattle.rules.proofs.Counts.{records-back, counted-length, count-back}
use Rattle.typed.proofs.Telling.{right-length}

pub block-told : (bytes : List ℕ) → length bytes ≡ block_size → block_told bytes ≡ found bytes
unfolding block_told
block-told bytes e = rw (right-length block_size bytes e)

ms-fits : (t : Timer) → timer_legal t ≡ true → t.ms < 65536
ms-fits t e = omega (arith, (timer-facts t e).ms)

pub timer-told : (t : Timer) → timer_legal t ≡ true → timer_told (timer_octets t) ≡ found t
unfolding timer_told other_length first
timer-told t e = rw (timer-length t, timer-back t (ms-fits t e))

-- what 0x31 sends
pub sizes-told : (kind : Kind) (d : Desk) (body : List ℕ) → TableLegal d.table
    → sizes_told (table_effect SendTable kind d body).sent ≡ found (record { size = share; start = d.table.start; len = length d.table.held })
unfolding table_effect result sizes_told sizes_from other_length first u16_at part octets
sizes-told kind d body p =
    let start : number (octets 2 d.table.start) ≡ d.table.start = number-octets 2 d.table.start (omega (arith, p.start)) in
    let len : number (octets 2 (length d.table.held)) ≡ length d.table.held = number-octets 2 (length d.table.held) (omega (arith, p.few)) in
    rw (number-octets 2 share (lit< tt), start, len)

-- ---- 0x22

-- what it sends is judged so
module _ (rs : List (List ℕ)) (wide : Wide record_width rs) (some : 0 < length rs) (few : length rs ≤ share) where
  counted-data : read_data (counted rs) ≡ true
  unfolding read_data
  counted-data =
      let n = count-back rs (omega arith) in
      let l : length (counted rs) ≡ 2 + length rs * record_width = counted-length rs wide in
      rw (n, lt-ltb 0 (length rs) some, le-leb (length rs) share few, eq-eqb (length (counted rs)) (2 + length rs * record_width) l) (or-true (eqb (length (counted rs)) 0))

  pub count-told : count_told (counted rs) ≡ found (length rs)
  unfolding count_told count_refusals first
  count-told = rw (counted-data, counted-length rs wide, records-back (length rs))

module _ (rs : List (List ℕ)) (wide : Wide record_width rs) (i : ℕ) (h : i < length rs) where
  row_is : part (record_width * i) record_width (joined rs) ≡ get_or rs i []
  row_is =
      sym (rows_at (length rs) record_width i (joined rs) h)
      ∙ ap (λ (s : List ℕ). get_or (rows (length rs) record_width s) i []) (sym (put_whole (joined rs) (joined rs) refl))
      ∙ ap (λ (es : List (List ℕ)). get_or es i []) (rows-joined record_width rs (joined rs) wide (omega (arith, length-joined record_width rs wide)))

  -- the count's two octets stand before it
  record_is : part (2 + i * record_width) record_width (counted rs) ≡ get_or rs i []
  unfolding counted part octets
  record_is =
      ap (take record_width) (drop-append-add (octets 2 (length rs)) (joined rs) (i * record_width))
      ∙ ap (λ (n : ℕ). part n record_width (joined rs)) (mul_comm i record_width)
      ∙ row_is

  pub record-told : length rs ≤ share → record_told (counted rs) i ≡ found (sighting_from (get_or rs i []))
  unfolding record_told record_refusals count_refusals first
  record-told few = rw (counted-data rs wide (omega arith) few, counted-length rs wide, records-back (length rs), lt-leb (length rs) i h, record_is)

pub sighting-back : (uid : ℕ) (t : Timer) (mask : ℕ) → uid < 2 ^ 64 → timer_legal t ≡ true
    → sighting_from (record_of uid t mask) ≡ record { uid = uid; timer = t; mask = mask }
unfolding sighting_from record_of part octets timer_octets
sighting-back uid t mask h e =
    let its : number (octets 8 uid) ≡ uid = number-octets 8 uid h in
    let timer : timer_from (timer_octets t) ≡ t = timer-back t (ms-fits t e) in
    rw (its, timer)
