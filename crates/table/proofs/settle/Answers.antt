-- `table::settle` meets its contract: one way removes the entry, two keep it. Assumes nothing.
use mathlib.Core.Path.{sym, ◌∙◌}
use mathlib.Core.Logic.{inl, inr}
use native.Mathlib.Omega.{arith}
use Rattle.table.proofs.Sweeps.{settled-gone, settled-kept}
use borrow.Author.Rules.{rules}
use Rattle.table.proofs.settle.Goals as goal
use Rattle.table.proofs.settle.Goals.{else-s-gt0-via-then-s-gt0+else-owner_at-d, else-s-gt0-via-else-s-gt0}

pub returns-then-owner_at-d : goal.returns-then-owner_at-d
returns-then-owner_at-d c = settled-gone (omega arith) (sym c.owner_at.ensures ∙ c.if-owner_at-d.true)

pub returns : goal.returns
returns c =
    settled-kept
    (elim c.else-s-gt0.branch [ else-s-gt0-via-then-s-gt0+else-owner_at-d w ↦ inr (λ q. w.if-owner_at-d.false (w.owner_at.ensures ∙ q)) | else-s-gt0-via-else-s-gt0 w ↦ inl (omega arith) ])
    (search rules)
