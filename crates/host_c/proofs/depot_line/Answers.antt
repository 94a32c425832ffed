-- `host_c::depot_line` meets its contract. Assumes nothing.
use native.Mathlib.Omega.{arith}
use Rattle.host_c.proofs.Fits.{line-fits}
use Rattle.host_c.proofs.depot_line.Goals as goal

pub written_code-requires : goal.written_code-requires
written_code-requires c = line-fits c.args.block.now c.args.sighted.now c.args.out.now _ _ (omega arith) c.line.ensures
