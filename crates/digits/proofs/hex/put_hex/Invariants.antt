-- `digits::hex::put_hex` meets its contract. After i turns the digits of the first i octets are written. Assumes nothing.
use mathlib.Core.Path.{◌≡◌}
use lib.ListN.{length, take}
use Rattle.octets.specs.Parts.{put}
use Rattle.rules.specs.Line.{hex}
use Rattle.digits.proofs.hex.put_hex.Given as goal

abbrev pub invariant-loop-i : goal.invariant-loop-i
invariant-loop-i l = (length l.out ≡ length l.initial.out) × (l.out ≡ put l.at (hex (take l.i l.s)) l.initial.out)
