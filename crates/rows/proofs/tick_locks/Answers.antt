-- `rows::tick_locks` meets its contract. Assumes nothing.
use native.Mathlib.Omega.{arith}
use Rattle.octets.specs.Parts.{part}
use Rattle.rows.proofs.Lent.{swept-few, locks-back}
use Rattle.rows.specs.Row.{swept_row}
use Rattle.rows.proofs.tick_locks.Goals as goal

pub overflow_cast-row : goal.overflow_cast-row
unfolding part
overflow_cast-row c =
    record { fits = omega (arith, swept-few c.args.row.now c.requires) }

pub returns : goal.returns
unfolding part swept_row
returns c =
    let row = c.args.row.now in
    locks-back row _ _ _ (omega arith) (swept-few row c.requires) c.tick-k.ensures.1 c.tick-k.ensures.0
