-- `host_c::depot_record` meets its contract. Assumes nothing.
use native.Mathlib.Omega.{arith}
use Rattle.octets.specs.Tests.{first}
use Rattle.typed.specs.Typed.{sighting_at}
use Rattle.fields.specs.Fields.{record_fields, put_record_refusals}
use Rattle.codes.proofs.Fits.{wrote-fits}
use Rattle.host_c.proofs.depot_record.Goals as goal

pub written_code-requires : goal.written_code-requires
written_code-requires c =
    let a = c.args in
    wrote-fits (first (put_record_refusals a.sent.now a.i a.out.now)) (record_fields (sighting_at a.sent.now a.i)) a.out.now _ _ (λ _. omega arith) c.record.ensures
