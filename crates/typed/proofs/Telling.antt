-- What the data of a reply say, from what was read of them. Assumes nothing.
use Prim.Native.Nat.{ℕ, ◌+◌, ◌*◌, ◌≤◌, ◌<◌}
use mathlib.Core.Path.{◌≡◌, refl, ap, ◌∙◌}
use mathlib.Core.Bool.{Bool, true, false, cond, not}
use mathlib.Core.List.{List, []}
use mathlib.Core.Option.{none, some, none-ne-some}
use native.Mathlib.Omega.{arith}
use lib.Dec.{eqb, lit≤}
use lib.ListN.{length, get_or}
use lib.Seq.{take_all}
use borrow.Author.Tests.{eq-eqb, ne_eqb, eqb-true, lt-ltb, le-leb, lt-leb, not-false}
use Rattle.octets.specs.Tests.{first}
use Rattle.octets.proofs.Tests.{none-head}
use Rattle.octets.specs.Parts.{part}
use Rattle.octets.specs.Numbers.{number, u16_at}
use Rattle.octets.proofs.Puts.{part-part, part_at}
use Rattle.frame.specs.Finding.{refused, found, finding}
use Rattle.frame.proofs.Finding.{finding-found, finding-refused}
use Rattle.timer.specs.declared.Timer.{Timer}
use Rattle.timer.specs.Clock.{timer_from}
use Rattle.table.specs.Entries.{record_width, share}
use Rattle.rules.specs.Records.{records_for}
use Rattle.typed.specs.Typed.{other_length, timer_told, sizes_from, sizes_told, read_data, count_refusals, count_told, sighting_from, record_refusals, record_told}

-- ---- by its length

module _ (size : ℕ) (sent : List ℕ) where
  pub other_length_lem : (length sent ≡ size → ⊥) → first (other_length size sent) ≡ some 8
  unfolding first other_length
  other_length_lem h = rw (ne_eqb _ _ h)

  pub right-length : length sent ≡ size → first (other_length size sent) ≡ none
  unfolding first other_length
  right-length e = rw (eq-eqb _ _ e)

pub timer-told : (sent : List ℕ) (t : Timer) → length sent ≡ 4 → t ≡ timer_from (part 0 4 sent) → found t ≡ timer_told sent
unfolding timer_told part
timer-told sent t e h = rw (right-length 4 sent e) (ap found (h ∙ ap timer_from (take_all 4 sent (omega arith))))

pub sizes-told : (sent : List ℕ) (a b c : ℕ) → length sent ≡ 6 → a ≡ u16_at 0 sent → b ≡ u16_at 2 sent → c ≡ u16_at 4 sent
    → found (record { size = a; start = b; len = c }) ≡ sizes_told sent
unfolding sizes_told sizes_from
sizes-told sent a b c e p q r = rw (right-length 6 sent e, p, q, r)

-- ---- the data of a reply to 0x22

pub data-counted : (sent : List ℕ) → (length sent ≡ 0 → ⊥) → (n : ℕ) → n ≡ u16_at 0 sent → (n ≡ 0 → ⊥) → n ≤ share → eqb (length sent) (2 + n * record_width) ≡ read_data sent
unfolding read_data
data-counted sent there n is more few = rw (ne_eqb _ _ there, ← is, lt-ltb 0 n (omega arith), le-leb n share few)

-- ---- record i

module _ (sent : List ℕ) (i : ℕ) where
  pub beyond : records_for (length sent) ≤ i → refused 6 ≡ record_told sent i
  unfolding record_told record_refusals first
  beyond h = rw (le-leb _ _ h)

  module _ (h : i < records_for (length sent)) where
    pub no-records : read_data sent ≡ false → refused 8 ≡ record_told sent i
    unfolding record_told record_refusals count_refusals first
    no-records e = rw (lt-leb _ _ h, e)

    -- which begins at a place
    pub record-told : read_data sent ≡ true → (at uid : ℕ) (t : Timer) (mask : ℕ) → at ≡ 2 + i * record_width → uid ≡ number (part at 8 sent)
        → t ≡ timer_from (part (at + 8) 4 sent) → mask ≡ get_or sent (at + 12) 0 → found (record { uid = uid; timer = t; mask = mask }) ≡ record_told sent i
    unfolding record_told record_refusals count_refusals sighting_from first
    record-told e at uid t mask there u w m =
        let at_zero : at + 0 ≡ at = omega arith in
        rw (
          lt-leb _ _ h,
          e,
          u,
          w,
          m,
          ← there,
          part-part 0 8 at record_width sent (lit≤ tt),
          part-part 8 4 at record_width sent (lit≤ tt),
          part_at at record_width sent 12 (omega arith),
          at_zero,
        )

-- ---- read back from what was told

pub length-is : (size : ℕ) (sent b : List ℕ) → found b ≡ finding (first (other_length size sent)) sent → length sent ≡ size
unfolding other_length
length-is size sent b e = eqb-true _ _ (not-false _ (none-head 8 (not (eqb (length sent) size)) [] (finding-found _ sent b e).0))

pub count-is : (sent : List ℕ) (m : ℕ) → found m ≡ count_told sent → (read_data sent ≡ true) × (m ≡ records_for (length sent))
unfolding count_told count_refusals
count-is sent m e =
    let u = finding-found (first (count_refusals sent)) (records_for (length sent)) m e in
    (not-false _ (none-head 8 (not (read_data sent)) [] u.0), u.1)

pub count-not : (sent : List ℕ) (n : ℕ) → refused n ≡ count_told sent → read_data sent ≡ false
unfolding count_told count_refusals first
count-not sent n e = go (read_data sent) (finding-refused (first (count_refusals sent)) (records_for (length sent)) n e)
  where
    go : (b : Bool) → cond (not b) (some 8) none ≡ some n → b ≡ false
    go true q = absurd (none-ne-some n q)
    go false q = refl
