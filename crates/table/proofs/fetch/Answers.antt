-- `table::fetch` meets its contract: one way copies, two do nothing. Assumes nothing.
use mathlib.Core.Path.{◌≡◌, sym, ◌∙◌}
use mathlib.Core.Logic.{inl, inr}
use Prim.Native.Nat.{◌+◌, ◌-◌, ◌*◌}
use native.Mathlib.Omega.{arith}
use Rattle.octets.specs.Parts.{part}
use Rattle.table.specs.Entries.{width, record_width}
use Rattle.table.proofs.Gathers.{body-part, fetched_one, fetched-none}
use Rattle.table.proofs.fetch.Goals as goal
use Rattle.table.proofs.fetch.Goals.{else-c-m-via-then-c-m+else-owner_at-d, else-c-m-via-else-c-m}

pub returns-then-owner_at-d : goal.returns-then-owner_at-d
unfolding part
returns-then-owner_at-d c =
    let a = c.args in
    let len : width * (a.i + 1) - (width * a.i + 1) ≡ record_width = omega arith in
    fetched_one (omega arith)
    (sym c.owner_at.ensures ∙ c.if-owner_at-d.true)
    (rw (len, ← body-part a.i a.t.now (omega arith)) at c.copy_to.ensures)

pub returns : goal.returns
returns c =
    fetched-none
    (elim c.else-c-m.branch [
      | else-c-m-via-then-c-m+else-owner_at-d w ↦ inr (λ q. w.if-owner_at-d.false (w.owner_at.ensures ∙ q))
      | else-c-m-via-else-c-m w ↦ inl w.if-c-m.false
    ])
