-- `holding::held` meets its contract. Assumes nothing.
use mathlib.Core.Path.{◌∙◌}
use lib.Dec.{lit<}
use native.Mathlib.Omega.{arith}
use Rattle.keeping.proofs.Rows.{sound-size}
use Rattle.holding.proofs.Records.{few-held, table-inside, table_fits, count-lent}
use Rattle.holding.proofs.held.Goals as goal

pub returns : goal.returns
returns c =
    let n = c.held.ensures ∙ count-lent _ c.requires _ _ c.start-at.ensures.0 c.used-n.ensures.0 c.args.d.number c.args.d.low in
    (n, omega (arith, n, few-held _ c.requires c.args.d.number c.args.d.low))

pub start-at-requires : goal.start-at-requires
start-at-requires c = (lit< tt, omega (arith, sound-size _ c.requires))

pub used-n-requires : goal.used-n-requires
used-n-requires c = omega (arith, sound-size _ c.requires)

pub slice_bounds-held-end : goal.slice_bounds-held-end
slice_bounds-held-end c = omega (arith, table-inside _ c.requires _ _ c.start-at.ensures.0 c.used-n.ensures.0)

pub held-requires : goal.held-requires
held-requires c = table_fits _ c.requires _ _ c.start-at.ensures.0 c.used-n.ensures.0
