-- The ranges of the numbers share none of them, end before 2^64, and the numbers of refusals and of lengths stand in theirs. Assumes nothing.
use Rattle.std.specs.Prelude.{Ok}
use Prim.Native.Nat.{ℕ, ◌+◌, ◌^◌, ◌<◌}
use mathlib.Core.Path.{◌≡◌, refl}
use mathlib.Core.Bool.{Bool, true}
use mathlib.Core.Logic.{⊎_elim}
use native.Mathlib.Decide.{dec_lt}
use native.Mathlib.Omega.{arith}
use lib.Dec.{leb}
use borrow.Author.Tests.{leb-true}
use Rattle.octets.specs.Tests.{every}
use Rattle.octets.specs.Areas.{clear}
use Rattle.octets.proofs.Areas.{clear_apart}
use Rattle.octets.proofs.Every.{every-at}
use Rattle.frame.specs.declared.Refusal.{Refusal}
use Rattle.frame.specs.Refusal.{number_of}
use Rattle.frame.proofs.Bounds.{number_small}
use Rattle.codes.specs.Codes.{In, refused, written, range_count, range_at, written_code}

abbrev from_of : ℕ → ℕ
from_of i = (range_at i).from

abbrev count_of : ℕ → ℕ
count_of i = (range_at i).count

abbrev fits64 : ℕ → Bool
fits64 i = leb (from_of i + count_of i) (2 ^ 64)

-- computed over the table
pub ranges-clear : clear range_count from_of count_of ≡ true
unfolding every
ranges-clear = refl

ranges-end : every range_count fits64 ≡ true
unfolding every
ranges-end = refl

pub range-fits : (i n : ℕ) → i < range_count → In (range_at i) n → n < 2 ^ 64
range-fits i n h m = omega (arith, leb-true (from_of i + count_of i) (2 ^ 64) (every-at range_count fits64 i ranges-end h), m.1)

-- a number stands in one range at most
pub one-range : (i j n : ℕ) → i < range_count → j < range_count → In (range_at i) n → In (range_at j) n → i ≡ j
one-range i j n hi hj p q =
    elim (dec_lt i j) [
      | yes l ↦ absurd (never (omega arith))
      | no l ↦
          elim (dec_lt j i) [
            | yes g ↦ absurd (never (omega arith))
            | no g ↦ omega arith
          ]
    ]
  where
    never : (i ≡ j → ⊥) → ⊥
    never ne = ⊎_elim (λ e. omega (arith, p.1, q.0)) (λ e. omega (arith, p.0, q.1)) (clear_apart range_count from_of count_of ranges-clear i j hi hj ne)

-- ---- a number stands in the range of its kind; of an answer of the box `answer-in` (depot_c), of the reader `told_in` (host_c)

pub number_in : (r : Refusal) → In refused (number_of r)
number_in r = ((number_small r).0, (number_small r).1)

pub written_in : (n : ℕ) → n < 2 ^ 63 → In written (written_code (Ok n))
written_in n h = (omega arith, omega arith)
