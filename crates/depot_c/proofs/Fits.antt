-- The number of every answer that a call of the box gives fits 64 bits. Assumes nothing.
use Rattle.std.specs.Prelude.{Result, Ok, Err}
use Prim.Native.Nat.{ℕ, ◌^◌, ◌<◌}
use mathlib.Core.List.{List}
use mathlib.Core.Option.{Option, none, some}
use native.Mathlib.Omega.{arith}
use Rattle.octets.specs.Tests.{first}
use Rattle.frame.specs.declared.Refusal.{Refusal}
use Rattle.frame.proofs.Bounds.{number_small}
use Rattle.rules.specs.Box.{frame, sighting, tick}
use Rattle.events.specs.declared.Answer.{Answer}
use Rattle.depot.specs.Called.{Called, test_refusals, TestedOf, Tested, fresh_refusals, MadeOf, Made}
use Rattle.events.proofs.Short.{Short}
use Rattle.depot.proofs.Short.{frame-short, sighting-short, tick-short}
use Rattle.codes.proofs.Fits.{seen-small}
use Rattle.depot_c.specs.Coded.{code_of}

answer-fits : (a : Result Answer Refusal) → Short a → code_of a < 2 ^ 64
answer-fits (Err r) h = omega (arith, (number_small r).1)
answer-fits (Ok (Answer.Reply n)) h = omega arith
answer-fits (Ok (Answer.Sighted w)) h = omega (arith, seen-small w h)
answer-fits (Ok Answer.Done) h = omega arith

pub frame-fits : (f s : List ℕ) (room : ℕ) (out : List ℕ) (a : Result Answer Refusal) (s' out' : List ℕ) → Called (frame f room) s out a s' out' → code_of a < 2 ^ 64
frame-fits f s room out a s' out' c = answer-fits a (frame-short s out a s' out' f room c)

pub sighting-fits : (n uid mask : ℕ) (s out : List ℕ) (a : Result Answer Refusal) (s' out' : List ℕ) → Called (sighting n uid mask) s out a s' out' → code_of a < 2 ^ 64
sighting-fits n uid mask s out a s' out' c = answer-fits a (sighting-short s out a s' out' n uid mask c)

pub tick-fits : (s out : List ℕ) (a : Result Answer Refusal) (s' out' : List ℕ) → Called tick s out a s' out' → code_of a < 2 ^ 64
tick-fits s out a s' out' c = answer-fits a (tick-short s out a s' out' c)

pub fresh-fits : (s : List ℕ) (a : Result Answer Refusal) (s' : List ℕ) → Made s a s' → code_of a < 2 ^ 64
fresh-fits s a s' c = go (first (fresh_refusals s)) c.made
  where
    go : (o : Option ℕ) → MadeOf o s a s' → code_of a < 2 ^ 64
    go none m = rw m.0 (omega arith)
    go (some n) m = rw m.0.answer-is (omega (arith, (number_small m.0.why).1))

pub test_fits : (s : List ℕ) (a : Result Answer Refusal) → Tested s a → code_of a < 2 ^ 64
test_fits s a c = go (first (test_refusals s)) c.tested
  where
    go : (o : Option ℕ) → TestedOf o a → code_of a < 2 ^ 64
    go none m = rw m (omega arith)
    go (some n) m = rw m.answer-is (omega (arith, (number_small m.why).1))
