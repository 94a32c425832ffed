-- `host_c::depot_sizes` meets its contract. Assumes nothing.
use native.Mathlib.Omega.{arith}
use Rattle.octets.specs.Tests.{first}
use Rattle.typed.specs.Typed.{sizes_from}
use Rattle.fields.specs.Fields.{sizes_fields, put_sizes_refusals}
use Rattle.codes.proofs.Fits.{wrote-fits}
use Rattle.host_c.proofs.depot_sizes.Goals as goal

pub written_code-requires : goal.written_code-requires
written_code-requires c =
    let a = c.args in
    wrote-fits (first (put_sizes_refusals a.sent.now a.out.now)) (sizes_fields (sizes_from a.sent.now)) a.out.now _ _ (λ _. omega arith) c.sizes.ensures
