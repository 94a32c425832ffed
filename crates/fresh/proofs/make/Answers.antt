-- `fresh::make` meets its contract. Assumes nothing.
use mathlib.Core.Path.{◌∙◌}
use Rattle.fresh.proofs.FreshRows.{store-made}
use Rattle.fresh.proofs.make.Goals as goal

pub returns : goal.returns
returns c =
    c.put_rows.ensures ∙ rw c.put_header.ensures (store-made c.args.s.now _ c.requires (c.fill.ensures.after (λ y same. same)))
