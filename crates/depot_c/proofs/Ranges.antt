-- The number of the box's answer stands in the range of its kind; that of an ignored sighting carries the ticks. Assumes nothing.
use Rattle.std.specs.Prelude.{Result, Ok, Err}
use Prim.Native.Nat.{ℕ, ◌-◌}
use mathlib.Core.Path.{◌≡◌}
use mathlib.Core.List.{List}
use native.Mathlib.Omega.{arith}
use Rattle.frame.specs.declared.Refusal.{Refusal}
use Rattle.rules.specs.declared.Seen.TheVariants.{Ignored, Lost, Recorded}
use Rattle.rules.specs.Box.{sighting}
use Rattle.events.specs.declared.Answer.{Answer}
use Rattle.events.proofs.Short.{Short}
use Rattle.depot.specs.Called.{Called}
use Rattle.depot.proofs.HeldBack.{HeldBack, held_back}
use Rattle.codes.specs.Codes.{Range, In, done, refused, sighted, ignored, written}
use Rattle.codes.proofs.Ranges.{number_in}
use Rattle.depot_c.specs.Coded.{code_of, CalledAs}

abbrev pub range_of : Result Answer Refusal → Range
range_of (Ok Answer.Done) = done
range_of (Err r) = refused
range_of (Ok (Answer.Sighted Recorded)) = sighted
range_of (Ok (Answer.Sighted Lost)) = sighted
range_of (Ok (Answer.Sighted (Ignored n))) = ignored
range_of (Ok (Answer.Reply n)) = written

pub answer-in : (a : Result Answer Refusal) → Short a → In (range_of a) (code_of a)
answer-in (Ok Answer.Done) h = (omega arith, omega arith)
answer-in (Err r) h = number_in r
answer-in (Ok (Answer.Sighted Recorded)) h = (omega arith, omega arith)
answer-in (Ok (Answer.Sighted Lost)) h = (omega arith, omega arith)
answer-in (Ok (Answer.Sighted (Ignored n))) h = (omega arith, omega arith)
answer-in (Ok (Answer.Reply n)) h = (omega arith, omega arith)

-- a number of an ignored sighting carries the ticks (document 02, vii): from 1 to VALID-TIME in force, as the lock has them left
pub ticks-carried : (n uid mask : ℕ) (s out : List ℕ) (code : ℕ) (s' out' : List ℕ) → CalledAs (sighting n uid mask) s out code s' out' → In ignored code
    → HeldBack n uid (code - ignored.from) s s'
ticks-carried n uid mask s out code s' out' c h = go c.answer c.code c.called
  where
    go : (a : Result Answer Refusal) → code ≡ code_of a → Called (sighting n uid mask) s out a s' out' → HeldBack n uid (code - ignored.from) s s'
    go (Ok Answer.Done) e p = absurd (omega (arith, h.0, h.1))
    go (Err r) e p = absurd (omega (arith, h.0, h.1, (number_in r).1))
    go (Ok (Answer.Sighted Recorded)) e p = absurd (omega (arith, h.0, h.1))
    go (Ok (Answer.Sighted Lost)) e p = absurd (omega (arith, h.0, h.1))
    go (Ok (Answer.Sighted (Ignored left))) e p = let same : code - ignored.from ≡ left = omega arith in rw same (held_back n uid mask left s out s' out' p)
    go (Ok (Answer.Reply k)) e p = absurd (omega (arith, h.0, h.1))
