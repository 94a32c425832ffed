-- `seal::write_check` meets its contract. Assumes nothing.
use Rattle.octets.specs.Parts.{part}
use Rattle.octets.proofs.Joins.{put_two}
use native.Mathlib.Omega.{arith}
use lib.ListN.{length-take, length-set}
use Rattle.seal.proofs.write_check.Goals as goal

pub slice_bounds-of-end-2 : goal.slice_bounds-of-end-2
slice_bounds-of-end-2 c = simp length-take (omega arith)

pub bounds-out-n-2 : goal.bounds-out-n-2
bounds-out-n-2 c = simp length-set (omega arith)

pub returns : goal.returns
unfolding part
returns c = let a = c.args in rw c.of-c.ensures (put_two a.n _ _ a.out.now)
