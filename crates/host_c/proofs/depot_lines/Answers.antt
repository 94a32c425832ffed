-- `host_c::depot_lines` meets its contract. Assumes nothing.
use native.Mathlib.Omega.{arith}
use Rattle.host_c.proofs.Fits.{lines-fit}
use Rattle.host_c.proofs.depot_lines.Goals as goal

pub written_code-requires : goal.written_code-requires
written_code-requires c = lines-fit c.args.block.now c.args.sent.now c.args.out.now _ _ (omega arith) c.all_lines.ensures
