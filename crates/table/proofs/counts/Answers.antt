-- `table::counts` meets its contract. Assumes nothing.
use mathlib.Core.Path.{sym, ◌∙◌}
use borrow.Author.Tests.{eq-eqb, ne_eqb}
use Rattle.table.specs.Entries.{records_of}
use Rattle.table.proofs.counts.Goals as goal

pub returns-then-owner_at-d : goal.returns-then-owner_at-d
unfolding records_of
returns-then-owner_at-d c = rw (eq-eqb _ _ (sym c.owner_at.ensures ∙ c.if-owner_at-d.true))

pub returns-else-owner_at-d : goal.returns-else-owner_at-d
unfolding records_of
returns-else-owner_at-d c = rw (ne_eqb _ _ (λ q. c.if-owner_at-d.false (c.owner_at.ensures ∙ q)))
