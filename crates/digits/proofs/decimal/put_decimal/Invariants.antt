-- `digits::decimal::put_decimal` meets its contract. With the i digits that are left put before them, the digits written so far are the number. Assumes nothing.
use mathlib.Core.Path.{◌≡◌}
use lib.ListN.{length}
use Rattle.octets.specs.Parts.{put}
use Rattle.digits.specs.Digits.{last_digits, decimal_of}
use Rattle.digits.proofs.decimal.put_decimal.Given as goal

abbrev pub invariant-loop-i : goal.invariant-loop-i
invariant-loop-i l = (length l.out ≡ length l.initial.out) × (put l.at (last_digits l.i l.left) l.out ≡ put l.at (decimal_of l.n) l.initial.out)
