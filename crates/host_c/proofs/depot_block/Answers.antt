-- `host_c::depot_block` meets its contract. Assumes nothing.
use native.Mathlib.Omega.{arith}
use Rattle.octets.specs.Tests.{first}
use Rattle.fields.specs.Fields.{put_block_refusals}
use Rattle.codes.proofs.Fits.{wrote-fits}
use Rattle.host_c.proofs.depot_block.Goals as goal

pub written_code-requires : goal.written_code-requires
written_code-requires c =
    let a = c.args in
    wrote-fits (first (put_block_refusals a.sent.now a.out.now)) a.sent.now a.out.now _ _ (λ _. omega arith) c.block.ensures
