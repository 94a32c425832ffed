-- The numbers of sightings and of lengths fit 64 bits. Assumes nothing.
use Rattle.std.specs.Prelude.{Result}
use Prim.Native.Nat.{ℕ, ◌^◌, ◌<◌}
use mathlib.Core.Path.{◌≡◌, refl}
use mathlib.Core.List.{List}
use mathlib.Core.Option.{Option, none, some}
use native.Mathlib.Omega.{arith}
use lib.ListN.{length}
use Rattle.frame.specs.declared.Refusal.{Refusal}
use Rattle.frame.proofs.Bounds.{number_small}
use Rattle.rules.specs.declared.Seen.{Seen}
use Rattle.rules.specs.declared.Seen.TheVariants.{Ignored, Lost, Recorded}
use Rattle.rules.specs.Output.{Wrote}
use Rattle.rules.proofs.TicksLeft.{TicksFit}
use Rattle.codes.specs.Codes.{seen_code, written_code}

pub seen-small : (w : Seen) → TicksFit w → seen_code w < 2 ^ 17
seen-small (Ignored n) h = omega arith
seen-small Lost h = omega arith
seen-small Recorded h = omega arith

-- ---- octets in a lent output, which has fewer than 2^63

pub wrote-fits : (o : Option ℕ) (t out : List ℕ) (a : Result ℕ Refusal) (out' : List ℕ) → (o ≡ none → length t < 2 ^ 63) → Wrote o t out a out' → written_code a < 2 ^ 64
wrote-fits none t out a out' h w = let l = h refl in rw w.outcome.0 (omega arith)
wrote-fits (some n) t out a out' h w = rw w.outcome.0.answer-is (omega (arith, (number_small w.outcome.0.why).1))
