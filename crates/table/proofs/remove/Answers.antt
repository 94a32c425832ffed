-- `table::remove` meets its contract: after i turns the first i entries are settled (`Swept`). Assumes nothing.
use mathlib.Core.Path.{◌≡◌, refl, ◌∙◌}
use native.Mathlib.Numerals.{add-one}
use native.Mathlib.Omega.{arith}
use Rattle.table.proofs.Sweeps.{swept-start, swept_step, kept-le}
use Rattle.table.proofs.remove.Goals as goal

pub loop-i-init : goal.loop-i-init
loop-i-init c = (swept-start, refl)

pub settle-s-requires : goal.settle-s-requires
settle-s-requires c = (kept-le c.loop-i.invariant.0, omega arith)

pub loop-i-preserved : goal.loop-i-preserved
loop-i-preserved c =
    let r = c.settle-s in (
      rw (add-one c.loop-i.i) (swept_step c.loop-i.invariant.0 (omega arith) r.ensures),
      r.auto.t ∙ c.loop-i.invariant.1,
    )

pub returns : goal.returns
returns c =
    let past : c.loop-i.i ≡ c.args.n = omega arith in
    record { value = rw (← past) c.loop-i.invariant.0.kept-is; t_after = rw (← past) c.loop-i.invariant.0.table_is }
