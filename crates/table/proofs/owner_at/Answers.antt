-- `table::owner_at` meets its contract: an entry's first octet. Assumes nothing.
use Prim.Native.Nat.{◌*◌}
use native.Mathlib.Nat.{add-zero}
use native.Mathlib.Omega.{arith}
use Rattle.octets.proofs.Puts.{part_at}
use Rattle.table.specs.Entries.{width}
use Rattle.table.proofs.owner_at.Goals as goal

pub returns : goal.returns
returns c =
    let s = c.args in
    rw (part_at (width * s.i) width s.t.now 0 (omega arith), add-zero)
