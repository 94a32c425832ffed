-- `digits::read::decode` meets its contract. After i turns the first i octets are written. Assumes nothing.
use mathlib.Core.Path.{◌≡◌}
use lib.ListN.{length, take}
use Rattle.octets.specs.Parts.{put}
use Rattle.digits.specs.Digits.{octets_of}
use Rattle.digits.proofs.read.decode.Given as goal

abbrev pub invariant-loop-i : goal.invariant-loop-i
invariant-loop-i l = (length l.to ≡ length l.initial.to) × (l.to ≡ put 0 (take l.i (octets_of l.s)) l.initial.to)
