-- Document 02 (vii), as a porter meets it: an ignored sighting tells the ticks that its lock has left, from 1 to VALID-TIME in force. Assumes nothing.
use mathlib.Core.Path.{◌≡◌, refl, ◌∙◌}
use Prim.Native.Nat.{ℕ, zero, suc, ◌-◌, ◌^◌, ◌≤◌, ◌<◌}
use mathlib.Core.Bool.{Bool, true, false, cond}
use mathlib.Core.List.{[], ◌∷◌}
use native.Mathlib.Omega.{arith}
use lib.ListN.{length, get_or}
use lib.Dec.{ltb}
use borrow.Author.Tests.{ltb-true, ltb-false, lt-ltb, le-ltb}
use Rattle.octets.specs.Each.{Octet}
use Rattle.locks.specs.declared.Lock.{Lock}
use Rattle.locks.specs.Locks.{locked, ticks_left}
use Rattle.locks.proofs.TicksLeft.{lock-at, left-range, locked-by-left, swept-left, added-left}
use Rattle.table.specs.Entries.{share}
use Rattle.rules.specs.declared.Seen.{Seen}
use Rattle.rules.specs.declared.Seen.TheVariants.{Ignored, Lost, Recorded}
use Rattle.rules.specs.Desk.{Desk, with_locks, with_timer}
use Rattle.rules.specs.Sighting.{unlocked_as, seen_as, after_seen, ticked}
use Rattle.rules.specs.Box.{sighting, tick, seen, ok, sighted, fresh_box, run}
use Rattle.rules.proofs.Facts.{DeskLegal}
use Rattle.rules.proofs.Legality.{sighted-legal, ticked-legal}
use Rattle.rules.proofs.Computed.{computed}
use Rattle.rules.proofs.Slips.{ask, told, zeros}

-- ---- what the answer tells of the lock

module _ (uid : ℕ) (d : Desk) where
  -- ignored is rule 1, and its ticks are those of the lock
  ignored-is : (n : ℕ) → seen_as uid d ≡ Ignored n → (locked uid d.locks ≡ true) × (ticks_left uid d.locks ≡ n)
  unfolding seen_as
  ignored-is n e = go (locked uid d.locks) (ltb (length d.table.held) share) refl e
    where
      go : (l f : Bool) → locked uid d.locks ≡ l → cond l (Ignored (ticks_left uid d.locks)) (cond f Recorded Lost) ≡ Ignored n
          → (locked uid d.locks ≡ true) × (ticks_left uid d.locks ≡ n)
      go true f q w = (q, cc)
      go false true q w = let z : ◌≡◌ {A = ℕ} 0 1 = cc in absurd (omega arith)
      go false false q w = let z : ◌≡◌ {A = ℕ} 0 1 = cc in absurd (omega arith)

  recorded-is : seen_as uid d ≡ Recorded → locked uid d.locks ≡ false
  unfolding seen_as
  recorded-is e = go (locked uid d.locks) e
    where
      go : (l : Bool) → cond l (Ignored (ticks_left uid d.locks)) (unlocked_as d) ≡ Recorded → l ≡ false
      go true w = let z : ◌≡◌ {A = ℕ} 0 1 = cc in absurd (omega arith)
      go false w = refl

  -- what the lock has left before the sighting and after it
  pub left-before-and-after : (mask n : ℕ) → seen_as uid d ≡ Ignored n → (ticks_left uid d.locks ≡ n) × (ticks_left uid (sighted uid mask d).desk.locks ≡ n)
  unfolding sighted after_seen
  left-before-and-after mask n e = let left = (ignored-is n e).1 in (left, rw e left)

  module _ (legal : DeskLegal d) where
    pub from-1-to-valid : (n : ℕ) → seen_as uid d ≡ Ignored n → (1 ≤ n) × (n ≤ d.valid)
    from-1-to-valid n e = let i = ignored-is n e in rw i.1 at (left-range d.valid uid d.locks legal.locks i.0)

    -- the ticks alone tell which rule fits
    seen-by-left : seen_as uid d ≡ (let left = ticks_left uid d.locks in cond (ltb 0 left) (Ignored left) (unlocked_as d))
    unfolding seen_as
    seen-by-left = rw (locked-by-left d.valid uid d.locks legal.locks)

-- each lock of a desk is met so, with its own ticks
pub of-each-lock : (d : Desk) (i : ℕ) (absent : Lock) → DeskLegal d → i < length d.locks
    → let l = get_or d.locks i absent in seen_as l.uid d ≡ Ignored l.left
unfolding seen_as
of-each-lock d i absent legal h = let f = lock-at d.locks i absent legal.locks.distinct h in rw (f.0, f.1)

-- in two octets, as the lock keeps them
abbrev pub TicksFit : Seen → Type 0
TicksFit (Ignored n) = n < 2 ^ 16
TicksFit Lost = Unit {0}
TicksFit Recorded = Unit {0}

pub ticks-fit : (uid : ℕ) (d : Desk) → DeskLegal d → TicksFit (seen_as uid d)
ticks-fit uid d legal = go (seen_as uid d) refl
  where
    go : (w : Seen) → seen_as uid d ≡ w → TicksFit w
    go (Ignored n) e = omega (arith, (from-1-to-valid uid d legal n e).1, legal.valid)
    go Lost e = tt
    go Recorded e = tt

-- ---- over time

abbrev pub ticked_by : ℕ → Desk → Desk
ticked_by zero d = d
ticked_by (suc k) d = ticked (ticked_by k d)

by-legal : (k : ℕ) (d : Desk) → DeskLegal d → DeskLegal (ticked_by k d)
by-legal zero d legal = legal
by-legal (suc k) d legal = ticked-legal (ticked_by k d) (by-legal k d legal)

-- each tick takes one
by_left : (k uid : ℕ) (d : Desk) → DeskLegal d → ticks_left uid (ticked_by k d).locks ≡ ticks_left uid d.locks - k
unfolding ticked with_timer with_locks
by_left zero uid d legal = omega arith
by_left (suc k) uid d legal =
    swept-left uid (ticked_by k d).locks (by-legal k d legal).locks.distinct ∙ rw (by_left k uid d legal) (omega arith)

by-held : (k : ℕ) (d : Desk) → (ticked_by k d).table ≡ d.table
unfolding ticked with_timer with_locks
by-held zero d = refl
by-held (suc k) d = by-held k d

-- a lock that has so many ticks left, k ticks later
later : (k uid n : ℕ) (d : Desk) → DeskLegal d → ticks_left uid d.locks ≡ n
    → seen_as uid (ticked_by k d) ≡ cond (ltb k n) (Ignored (n - k)) (unlocked_as d)
later k uid n d legal e = seen-by-left uid (ticked_by k d) (by-legal k d legal) ∙ rw (by_left k uid d legal, e, by-held k d) (go (ltb k n) refl)
  where
    go : (b : Bool) → ltb k n ≡ b → cond (ltb 0 (n - k)) (Ignored (n - k)) (unlocked_as d) ≡ cond b (Ignored (n - k)) (unlocked_as d)
    go true q = rw (lt-ltb 0 (n - k) (omega (arith, ltb-true k n q)))
    go false q = rw (le-ltb 0 (n - k) (omega (arith, ltb-false k n q)))

-- who is told so many ticks is told one fewer at each tick, down to 1, and is then no longer held back
pub counts-down : (k uid n : ℕ) (d : Desk) → DeskLegal d → seen_as uid d ≡ Ignored n → seen_as uid (ticked_by k d) ≡ cond (ltb k n) (Ignored (n - k)) (unlocked_as d)
counts-down k uid n d legal e = later k uid n d legal (ignored-is uid d n e).1

module _ (uid mask : ℕ) (d : Desk) (small : uid < 2 ^ 64) (octet : Octet mask) (legal : DeskLegal d) (recorded : seen_as uid d ≡ Recorded) where
  -- a tag that was recorded is held back VALID-TIME ticks: met k ticks later, it is told how many of them are left; met after the last it is
  -- recorded again, or lost where 64 records are held
  pub lock-lasts : (k : ℕ) → let after = (sighted uid mask d).desk in seen_as uid (ticked_by k after) ≡ cond (ltb k d.valid) (Ignored (d.valid - k)) (unlocked_as after)
  unfolding sighted after_seen with_locks
  lock-lasts k =
      later k uid d.valid (sighted uid mask d).desk (sighted-legal uid mask d small octet legal)
      (rw recorded (added-left uid d.valid d.locks (recorded-is uid d recorded)))

-- ---- a day each at a fresh box

-- each desk tells of its own lock
pub ticks-of-a-desk :
    run fresh_box (sighting 0 7 1 ∷ tick ∷ sighting 1 7 1 ∷ tick ∷ sighting 0 7 1 ∷ sighting 1 7 1 ∷ [])
    ≡ seen Recorded ∷ ok ∷ seen Recorded ∷ ok ∷ seen (Ignored 53) ∷ seen (Ignored 54) ∷ []
unfolding computed
ticks-of-a-desk = refl

-- VALID-TIME 1: one tick is left, and then none
pub one-tick :
    run fresh_box (ask 0xA0 (zeros 4) ∷ ask 0x81 (0x8C ∷ 0 ∷ 1 ∷ zeros 12) ∷ ask 0x63 [] ∷ sighting 0 7 1 ∷ sighting 0 7 1 ∷ tick ∷ sighting 0 7 1 ∷ sighting 0 7 1 ∷ [])
    ≡ told 0xA0 0x00 [] ∷ told 0x81 0x00 [] ∷ told 0x63 0x00 [] ∷ seen Recorded ∷ seen (Ignored 1) ∷ ok ∷ seen Recorded ∷ seen (Ignored 1) ∷ []
unfolding computed
one-tick = refl

-- VALID-TIME 65535, the most that two octets hold
pub most-ticks :
    run fresh_box (ask 0xA0 (zeros 4) ∷ ask 0x81 (0x8C ∷ 255 ∷ 255 ∷ zeros 12) ∷ ask 0x63 [] ∷ sighting 0 7 1 ∷ sighting 0 7 1 ∷ tick ∷ sighting 0 7 1 ∷ [])
    ≡ told 0xA0 0x00 [] ∷ told 0x81 0x00 [] ∷ told 0x63 0x00 [] ∷ seen Recorded ∷ seen (Ignored 65535) ∷ ok ∷ seen (Ignored 65534) ∷ []
unfolding computed
most-ticks = refl

-- a new VALID-TIME counts from 0x63 on: until then a lock has what is left of the old one, also one that is added after the write
pub ticks-after-a-reset :
    run fresh_box
    (sighting 0 7 1 ∷ ask 0xA0 (zeros 4) ∷ ask 0x81 (0x8C ∷ 0 ∷ 3 ∷ zeros 12) ∷ tick ∷ sighting 0 7 1 ∷ sighting 0 8 1 ∷ sighting 0 8 1 ∷ ask 0x63 [] ∷ sighting 0 7 1 ∷ sighting 0 7 1
    ∷ [])
    ≡ seen Recorded ∷ told 0xA0 0x00 [] ∷ told 0x81 0x00 [] ∷ ok ∷ seen (Ignored 54) ∷ seen Recorded ∷ seen (Ignored 55) ∷ told 0x63 0x00 [] ∷ seen Recorded ∷ seen (Ignored 3) ∷ []
unfolding computed
ticks-after-a-reset = refl
