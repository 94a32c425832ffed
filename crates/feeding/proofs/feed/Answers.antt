-- `feeding::feed` meets its contract. Assumes nothing.
use mathlib.Core.Path.{◌≡◌, ap}
use mathlib.Core.Bool.{not, ◌||◌}
use Rattle.digits.specs.Digits.{is_hex}
use Rattle.feeding.proofs.Feeding.{feeds-held, feeds-over}
use Rattle.feeding.proofs.feed.Goals as goal
use Rattle.feeding.proofs.feed.Goals.{Joined-state, then-state, else-state}

-- whether one of the octets so far, or this one, is no hex digit
spoilt : (c : Joined-state) → c.if-state.bad ≡ (c.args.state.bad || not (is_hex c.args.c))
spoilt c =
    elim c.if-state.branch [
      | then-state w ↦ rw (w.bad-is, w.if-state.true)
      | else-state w ↦ rw (w.bad-is, w.if-state.false) (ap not w.is_hex.ensures)
    ]

pub returns-then-at-held : goal.returns-then-at-held
returns-then-at-held c = feeds-held _ _ _ _ (spoilt (goal.at.returns-then-at-held c).Joined-state) c.if-at-held.true

pub returns-else-at-held : goal.returns-else-at-held
returns-else-at-held c = feeds-over _ _ _ _ (spoilt (goal.at.returns-else-at-held c).Joined-state) c.if-at-held.false
