-- `fresh::put_header` meets its contract. Assumes nothing.
use mathlib.Core.Path.{refl, ◌∙◌}
use Rattle.fresh.proofs.FreshRows.{header_made}
use Rattle.fresh.proofs.put_header.Goals as goal

pub returns : goal.returns
returns c =
    c.put-3.ensures ∙ rw (c.put-2.ensures, c.put.ensures) (header_made _ _ _ _ refl refl refl)
