-- `table::gather` meets its contract: after i turns the first i entries are read (`Gathered`). Assumes nothing.
use mathlib.Core.Path.{◌≡◌, refl, ◌∙◌}
use native.Mathlib.Numerals.{add-one}
use native.Mathlib.Omega.{arith}
use Rattle.table.proofs.Gathers.{gathered-start, gathered-step}
use Rattle.table.proofs.gather.Goals as goal

pub loop-i-init : goal.loop-i-init
loop-i-init c = (gathered-start, refl)

pub loop-i-preserved : goal.loop-i-preserved
loop-i-preserved c =
    let r = c.fetch-c in (
      rw (add-one c.loop-i.i) (gathered-step c.loop-i.invariant.0 (omega arith) r.ensures),
      r.auto.out ∙ c.loop-i.invariant.1,
    )

pub returns : goal.returns
returns c =
    let past : c.loop-i.i ≡ c.args.n = omega arith in
    record { value = rw (← past) c.loop-i.invariant.0.count-is; out_after = rw (← past) c.loop-i.invariant.0.out-is }
