-- `host_c::depot_read` meets its contract: the number of what the reader answers to the request that the numbers name. Assumes nothing.
use Rattle.host_c.specs.Coded.{read_code}
use mathlib.Core.Path.{ap, ◌∙◌}
use native.Mathlib.Omega.{arith}
use Rattle.host_c.proofs.Fits.{read_fits}
use Rattle.host_c.proofs.depot_read.Goals as goal

pub read_code-requires : goal.read_code-requires
read_code-requires c =
    rw c.read.ensures (read_fits _ c.args.reply.now (λ i. (c.type_inv.reply i).fits) (omega arith))

pub returns : goal.returns
returns c = c.read_code.ensures ∙ ap read_code (rw c.request_of-q.ensures at c.read.ensures)
