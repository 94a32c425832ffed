-- What is known of values that their fields hold. Assumes nothing.
use Prim.Native.Nat.{ℕ, ◌<◌}
use mathlib.Core.Path.{◌≡◌, sym, ap, ◌∙◌}
use mathlib.Core.Bool.{true, ◌&&◌}
use mathlib.Core.List.{◌∷◌}
use lib.Dec.{ltb}
use borrow.Author.Tests.{ltb-true}
use Rattle.octets.specs.Parts.{part}
use Rattle.octets.specs.Numbers.{octets, u16_at}
use Rattle.octets.proofs.Numbers.{number-octets}
use Rattle.octets.proofs.Tests.{and_left, and_right}
use Rattle.timer.specs.Clock.{timer_from, timer_octets}
use Rattle.timer.proofs.ReadBack.{timer-back}
use Rattle.requests.specs.declared.Ask.{Ask}
use Rattle.requests.specs.declared.Ask.TheVariants.{SetTimer}
use Rattle.requests.specs.Request.{fields_hold}

-- what is asked holds, where it is known what is asked
pub holds_as : (a b : Ask) → fields_hold a ≡ true → a ≡ b → fields_hold b ≡ true
holds_as a b h e = ap fields_hold (sym e) ∙ h

-- hour and minute have one octet, milliseconds two
pub record Times (h m ms : ℕ) : Type 0 where
  pub hour : h < 256
  pub minute : m < 256
  pub milli : ms < 65536

times-held : (h m ms : ℕ) → fields_hold (SetTimer h m ms) ≡ true → Times h m ms
times-held h m ms e =
    let hm = and_left (ltb h 256 && ltb m 256) (ltb ms 65536) e in
    record {
      hour = ltb-true h 256 (and_left (ltb h 256) (ltb m 256) hm);
      minute = ltb-true m 256 (and_right (ltb h 256) (ltb m 256) hm);
      milli = ltb-true ms 65536 (and_right (ltb h 256 && ltb m 256) (ltb ms 65536) e);
    }

pub times : (a : Ask) (h m ms : ℕ) → fields_hold a ≡ true → a ≡ SetTimer h m ms → Times h m ms
times a h m ms e is = times-held h m ms (holds_as a (SetTimer h m ms) e is)

-- two octets read back
pub two_back : (n : ℕ) → n < 65536 → u16_at 0 (octets 2 n) ≡ n
unfolding u16_at part octets
two_back n h = number-octets 2 n h

pub timer-said : (h m ms : ℕ) → ms < 65536 → timer_from (h ∷ m ∷ octets 2 ms) ≡ record { hour = h; minute = m; ms = ms }
unfolding timer_octets
timer-said h m ms e = timer-back (record { hour = h; minute = m; ms = ms }) e
