-- `soundness::row_right` meets its contract: each way rewrites the tests by those that led there. Assumes nothing.
use mathlib.Core.Path.{◌≡◌}
use mathlib.Core.List.{List}
use Prim.Native.Nat.{ℕ}
use Rattle.store.proofs.RowTests.{tests, desk-tests}
use Rattle.soundness.specs.Tested.{row_sound}
use Rattle.std.proofs.Common.{sym, ◌∙◌}
use Rattle.soundness.proofs.row_right.Goals as goal
use Rattle.soundness.proofs.row_right.Goals.{Else-not-flags_right}

-- login and mark are right: the rest is that the desk is legal
flagged : (c : Else-not-flags_right) (rs : List (List ℕ)) → let row = c.args.row.now in row_sound row rs ≡ tests row rs
unfolding row_sound
flagged c rs =
    rw (sym c.flags_right.ensures ∙ c.if-not-flags_right.false) (desk-tests _ c.told-row c.fits-row rs)

pub returns-then-not-flags_right : goal.returns-then-not-flags_right
unfolding row_sound
returns-then-not-flags_right c = record { told = λ rs l p. rw (sym c.flags_right.ensures ∙ c.if-not-flags_right.true) }

pub returns-then-not-memories_right : goal.returns-then-not-memories_right
returns-then-not-memories_right c = record { told = λ rs l p. rw (flagged (goal.at.returns-then-not-memories_right c).Else-not-flags_right rs, (sym c.memories_right.ensures ∙ c.if-not-memories_right.true)) }

pub returns-then-not-timer_right : goal.returns-then-not-timer_right
returns-then-not-timer_right c =
    record { told = λ rs l p. rw (flagged (goal.at.returns-then-not-timer_right c).Else-not-flags_right rs, (sym c.memories_right.ensures ∙ c.if-not-memories_right.false), (sym c.timer_right.ensures ∙ c.if-not-timer_right.true)) }

pub returns-then-not-locks_right : goal.returns-then-not-locks_right
returns-then-not-locks_right c =
    record {
      told = λ rs l p. rw (
        flagged (goal.at.returns-then-not-locks_right c).Else-not-flags_right rs,
        (sym c.memories_right.ensures ∙ c.if-not-memories_right.false),
        (sym c.timer_right.ensures ∙ c.if-not-timer_right.false),
        (sym c.locks_right.ensures ∙ c.if-not-locks_right.true),
      );
    }

pub returns : goal.returns
returns c =
    record {
      told = λ rs l p. rw (
        flagged (goal.at.returns c).Else-not-flags_right rs,
        (sym c.memories_right.ensures ∙ c.if-not-memories_right.false),
        (sym c.timer_right.ensures ∙ c.if-not-timer_right.false),
        (sym c.locks_right.ensures ∙ c.if-not-locks_right.false),
      ) (c.table_right.ensures.told rs l p);
    }
