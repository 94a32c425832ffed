-- `host_c::depot_make` meets its contract: the number of what the maker answers to the request that the numbers name. Assumes nothing.
use native.Mathlib.Omega.{arith}
use Rattle.host_c.proofs.Fits.{framed-fits}
use Rattle.host_c.proofs.depot_make.Goals as goal

pub written_code-requires : goal.written_code-requires
written_code-requires c =
    framed-fits _ c.args.out.now _ _ (omega (arith, c.well_formed.1.1.1.1.1.1.1.0.1)) c.make.ensures

pub returns : goal.returns
returns c =
    record { answer = c.make.result; code = c.written_code.ensures; wrote = rw c.request_of-q.ensures at c.make.ensures }
