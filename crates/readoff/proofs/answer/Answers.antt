-- `readoff::answer` meets its contract. Assumes nothing.
use Prim.Native.Nat.{ℕ}
use mathlib.Core.List.{List}
use mathlib.Core.Path.{◌≡◌, refl, sym, ap, ◌∙◌}
use lib.ListN.{take}
use Rattle.digits.specs.Digits.{octets_of}
use Rattle.text.specs.Listing.{frame, not_read, other_line}
use Rattle.digits.proofs.Values.{take-least}
use Rattle.feeding.proofs.Held.{reads-long, reads_other, reads-odd, reads-frame}
use Rattle.readoff.proofs.Whole.{read_whole}
use Rattle.readoff.proofs.answer.Goals as goal
use Rattle.readoff.proofs.answer.Goals.{After-min-n}

-- what is handed on is all that is held
handed-on : (c : After-min-n) → take c.min-n.result c.args.held.now ≡ take c.args.state.held c.args.held.now
handed-on c = take-least _ _ _ c.min-n.ensures

pub returns-then-state-2 : goal.returns-then-state-2
returns-then-state-2 c =
    let a = c.args in
    read_whole _ _ _ _ _ _ _ a.state a.held.now not_read (reads-long a.state a.held.now c.if-state.true c.if-state-2.true)
    (record { answers = (refl, refl, c.not_read.ensures) })

pub returns-else-state-2 : goal.returns-else-state-2
returns-else-state-2 c =
    let a = c.args in
    read_whole _ _ _ _ _ _ _ a.state a.held.now (other_line (take c.min-n.result a.held.now))
    (reads_other a.state a.held.now c.if-state.true c.if-state-2.false ∙ ap other_line (sym (handed-on (goal.at.returns-else-state-2 c).After-min-n)))
    c.other.ensures

pub returns-then-state-3 : goal.returns-then-state-3
returns-then-state-3 c =
    let a = c.args in
    read_whole _ _ _ _ _ _ _ a.state a.held.now not_read (reads-odd a.state a.held.now c.if-state.false c.if-state-3.true)
    (record { answers = (refl, refl, c.not_read-then-state-3.ensures) })

pub returns-else-state-3 : goal.returns-else-state-3
returns-else-state-3 c =
    let a = c.args in
    read_whole _ _ _ _ _ _ _ a.state a.held.now (frame (octets_of (take c.min-n.result a.held.now)))
    (reads-frame a.state a.held.now c.if-state.false c.if-state-3.false ∙ ap (λ (t : List ℕ). frame (octets_of t)) (sym (handed-on (goal.at.returns-else-state-3 c).After-min-n)))
    c.framed.ensures
