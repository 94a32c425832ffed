-- `seal::has_room` meets its contract. Assumes nothing.
use native.Mathlib.Omega.{arith}
use Rattle.frame.proofs.Bounds.{lead-small, longest-small, status-small}
use Rattle.seal.proofs.Room.{too_long, by-room}
use Rattle.seal.proofs.has_room.Goals as goal

pub returns-then-longest-len : goal.returns-then-longest-len
returns-then-longest-len c = too_long _ _ _ _ (omega arith)

pub overflow_add-n : goal.overflow_add-n
overflow_add-n c =
    let a = c.args in
    omega (arith, lead-small a.kind, longest-small a.kind, status-small a.way)

pub returns-then-longest-n : goal.returns-then-longest-n
returns-then-longest-n c = too_long _ _ _ _ (omega arith)

pub returns : goal.returns
returns c = rw c.overhead.ensures (by-room _ _ _ _ (omega arith))
