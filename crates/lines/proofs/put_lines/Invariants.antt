-- `lines::put_lines` meets its contract. After k turns the lines of the first k records are written. Assumes nothing.
use Prim.Native.Nat.{◌*◌}
use mathlib.Core.Path.{◌≡◌}
use lib.ListN.{length}
use Rattle.octets.specs.Parts.{put}
use Rattle.pieces.specs.Pieces.{width_of}
use Rattle.lines.proofs.Turns.{first_lines}
use Rattle.lines.proofs.put_lines.Given as goal

abbrev pub invariant-loop-k : goal.invariant-loop-k
invariant-loop-k l = (l.at ≡ width_of l.shape.block * l.k) × (length l.out ≡ length l.initial.out) × (l.out ≡ put 0 (first_lines l.shape.block l.sent l.k) l.initial.out)
