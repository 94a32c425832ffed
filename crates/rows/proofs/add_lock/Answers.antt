-- `rows::add_lock` meets its contract. Assumes nothing.
use mathlib.Core.Path.{◌≡◌}
use native.Mathlib.Omega.{arith}
use Rattle.octets.specs.Parts.{part}
use Rattle.octets.specs.Numbers.{u16_at}
use Rattle.store.specs.Rows.{valid_at}
use Rattle.rows.proofs.Lent.{locked-few, locked-back}
use Rattle.rows.proofs.add_lock.Goals as goal
use Rattle.rows.proofs.add_lock.Goals.{After-get16-valid}

pub overflow_cast-row : goal.overflow_cast-row
unfolding part
overflow_cast-row c =
    record { fits = omega (arith, locked-few c.args.row.now c.requires c.args.uid c.get16-valid.result) }

valid-is : (c : After-get16-valid) → c.get16-valid.result ≡ u16_at valid_at c.args.row.now
valid-is c = rw c.get16-valid.ensures

pub returns : goal.returns
unfolding part
returns c =
    locked-back c.args.row.now c.args.uid c.get16-valid.result _ _ (omega arith) c.requires (valid-is (goal.at.returns c).After-get16-valid) c.add-k.ensures.1 c.add-k.ensures.0
