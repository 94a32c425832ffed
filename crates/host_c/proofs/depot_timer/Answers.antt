-- `host_c::depot_timer` meets its contract. Assumes nothing.
use native.Mathlib.Omega.{arith}
use Rattle.octets.specs.Tests.{first}
use Rattle.timer.specs.Clock.{timer_from}
use Rattle.fields.specs.Fields.{timer_fields, put_timer_refusals}
use Rattle.codes.proofs.Fits.{wrote-fits}
use Rattle.host_c.proofs.depot_timer.Goals as goal

pub written_code-requires : goal.written_code-requires
written_code-requires c =
    let a = c.args in
    wrote-fits (first (put_timer_refusals a.sent.now a.out.now)) (timer_fields (timer_from a.sent.now)) a.out.now _ _ (λ _. omega arith) c.timer.ensures
