-- `octets::octets` meets its contract: the octets taken are those of a number that equals v, said such that an edit falls at the number.
-- Assumes nothing.
use Prim.Native.Nat.{ℕ}
use mathlib.Core.Path.{◌≡◌}
use mathlib.Core.List.{List}
use Rattle.std.specs.Int.{bytes_high_first}
use native.Mathlib.Omega.{arith}
use Rattle.std.proofs.Common.{◌∙◌, ap}
use lib.ListN.{take, drop}
use Rattle.std.proofs.Common.{◌-◌}
use Rattle.octets.proofs.Numbers.{octets_last}
use Rattle.octets.proofs.octets.Goals as goal

of_equal : (a v : ℕ) (r : List ℕ) → r ≡ bytes_high_first 8 a → a ≡ v → r ≡ bytes_high_first 8 v
of_equal a v r e is = rw (← is) e

pub returns : goal.returns
returns g c =
    let n = g.row.N in
    c.copy_from_slice.ensures.after ∙ ap (λ xs. take (8 - (8 - n)) (drop (8 - n) xs)) (of_equal _ c.args.v _ c.to_be_bytes.ensures (omega arith)) ∙ octets_last 8 n c.args.v c.requires
