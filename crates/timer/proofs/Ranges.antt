-- What the test of a timer tells, and that a step leaves a legal one. Assumes nothing.
use mathlib.Core.Path.{◌≡◌, refl}
use Prim.Native.Nat.{◌<◌}
use mathlib.Core.Bool.{true}
use native.Mathlib.Omega.{arith}
use borrow.Author.Tests.{ltb-true, lt-ltb}
use Rattle.octets.proofs.Tests.{and_left, and_right}
use Rattle.timer.specs.declared.Timer.{Timer}
use Rattle.timer.specs.Clock.{midnight, timer_legal, step_of}

pub record TimerLegal (t : Timer) : Type 0 where
  pub hour : t.hour < 24
  pub minute : t.minute < 60
  pub ms : t.ms < 60000

pub timer-facts : (t : Timer) → timer_legal t ≡ true → TimerLegal t
unfolding timer_legal
timer-facts t e = record {
  hour = ltb-true t.hour 24 (search (and_left, and_right));
  minute = ltb-true t.minute 60 (search (and_left, and_right));
  ms = ltb-true t.ms 60000 (search (and_left, and_right));
}

pub timer-test : (t : Timer) → TimerLegal t → timer_legal t ≡ true
unfolding timer_legal
timer-test t p = simp (lt-ltb t.hour 24 p.hour, lt-ltb t.minute 60 p.minute, lt-ltb t.ms 60000 p.ms)

-- a step leaves a legal timer, whatever it was
pub step-legal : (t : Timer) → timer_legal (step_of t) ≡ true
unfolding step_of
step-legal t = timer-test (step_of t) record { hour = omega arith; minute = omega arith; ms = omega arith }

pub midnight-legal : timer_legal midnight ≡ true
unfolding midnight timer_legal
midnight-legal = refl
