-- Of `pieces::put_raw`: after i turns the first i octets are put. Assumes nothing.
use mathlib.Core.Path.{◌≡◌}
use lib.ListN.{length, take}
use Rattle.octets.specs.Parts.{put}
use Rattle.pieces.proofs.put_raw.Given as goal

abbrev pub invariant-loop-i : goal.invariant-loop-i
invariant-loop-i l = (length l.out ≡ length l.initial.out) × (l.out ≡ put l.at (take l.i l.s) l.initial.out)
