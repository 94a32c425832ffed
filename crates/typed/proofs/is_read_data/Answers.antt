-- `typed::is_read_data` meets its contract: what the check finds alone too, said such that edits fall at the numbers. Assumes nothing.
use mathlib.Core.Path.{sym, ◌∙◌}
use native.Mathlib.Omega.{arith}
use borrow.Author.Tests.{leb-true, ltb-true}
use Rattle.table.specs.Entries.{share}
use Rattle.typed.proofs.Telling.{data-counted}
use Rattle.typed.proofs.is_read_data.Goals as goal
use Rattle.typed.proofs.is_read_data.Goals.{then-n-gt0, else-n-gt0}

pub returns-then-n : goal.returns-then-n
returns-then-n c =
    let n = c.get16-n.result in
    elim c.if-n-gt0.branch [
      | then-n-gt0 w ↦ data-counted _ (λ z. omega arith) n c.get16-n.ensures (λ z. omega arith) (leb-true n share (sym w.value-is ∙ c.if-n.true))
      | else-n-gt0 w ↦ absurd (omega (arith, ltb-true 0 n (sym w.value-is ∙ c.if-n.true), w.if-n-gt0.false))
    ]
