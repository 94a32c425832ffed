-- A timer's four octets, and the timer read back from them. Assumes nothing.
use mathlib.Core.Path.{◌≡◌, refl, ap}
use Prim.Native.Nat.{ℕ, ◌<◌}
use mathlib.Core.Bool.{true}
use mathlib.Core.List.{List, [], ◌∷◌}
use native.Mathlib.Omega.{arith}
use lib.ListN.{length, take}
use lib.Seq.{take_all}
use Rattle.octets.specs.Parts.{part}
use Rattle.octets.specs.Numbers.{octets, u16_at, number, Octets}
use Rattle.octets.specs.Each.{All, Octet}
use Rattle.octets.proofs.Each.{octets-number}
use Rattle.octets.proofs.Numbers.{number-octets, octets-length, octets-part, octets-number as octets-back}
use Rattle.timer.specs.declared.Timer.{Timer}
use Rattle.timer.specs.Clock.{timer_legal, timer_octets, timer_from}
use Rattle.timer.proofs.Ranges.{TimerLegal, timer-facts}

pub timer-length : (t : Timer) → length (timer_octets t) ≡ 4
unfolding timer_octets octets
timer-length t = refl

pub timer-octets : (t : Timer) → timer_legal t ≡ true → All Octet (timer_octets t)
unfolding timer_octets
timer-octets t e =
    let p : TimerLegal t = timer-facts t e in
    (omega arith, (omega arith, octets-number 2 t.ms))

pub timer-back : (t : Timer) → t.ms < 65536 → timer_from (timer_octets t) ≡ t
unfolding timer_from timer_octets u16_at part
timer-back t h =
    let e : number (octets 2 t.ms) ≡ t.ms = number-octets 2 t.ms h in
    let whole : take 2 (octets 2 t.ms) ≡ octets 2 t.ms = take_all 2 (octets 2 t.ms) (omega (arith, octets-length 2 t.ms)) in
    rw (whole, e)

-- four octets, and back from the timer that they say
pub timer-forth : (p : List ℕ) → length p ≡ 4 → Octets p → timer_octets (timer_from p) ≡ p
unfolding timer_from timer_octets u16_at part
timer-forth [] e o = absurd (omega arith)
timer-forth (a ∷ []) e o = absurd (omega arith)
timer-forth (a ∷ b ∷ []) e o = absurd (omega arith)
timer-forth (a ∷ b ∷ c ∷ []) e o = absurd (omega arith)
timer-forth (a ∷ b ∷ c ∷ d ∷ []) e o = ap (λ (l : List ℕ). a ∷ b ∷ l) (octets-back (c ∷ d ∷ []) (octets-part 2 2 (a ∷ b ∷ c ∷ d ∷ []) o))
timer-forth (a ∷ b ∷ c ∷ d ∷ x ∷ p) e o = absurd (omega arith)
