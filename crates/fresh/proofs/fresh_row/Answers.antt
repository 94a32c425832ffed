-- `fresh::fresh_row` meets its contract. Assumes nothing.
use mathlib.Core.Path.{sym, ◌∙◌}
use Rattle.fresh.proofs.Blocks.{valid-default}
use Rattle.fresh.proofs.FreshRows.{row_made}
use Rattle.fresh.proofs.fresh_row.Goals as goal

pub returns : goal.returns
returns c =
    c.put.ensures
    ∙ rw (c.put_memory-2.ensures, c.put_memory.ensures)
    (row_made _ c.args.row.now _ (sym valid-default) c.requires (c.fill.ensures.after (λ y same. same)))
