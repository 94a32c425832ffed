-- `keeping::row_at` meets its contract. Assumes nothing.
use native.Mathlib.Omega.{arith}
use Rattle.keeping.proofs.Rows.{sound-size, lent-inside}
use Rattle.keeping.proofs.row_at.Goals as goal

pub row_at-requires : goal.row_at-requires
row_at-requires c = (c.args.d.low, omega (arith, sound-size _ c.requires))

pub returns : goal.returns
returns c =
    (c.row_at.ensures.0, lent-inside _ c.requires c.args.d.number c.args.d.low _ c.row_at.ensures.0)
