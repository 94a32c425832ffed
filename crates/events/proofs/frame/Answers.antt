-- `events::frame` meets its contract: refusal 2, then the frame's faults, then the desk. Assumes nothing.
use Prim.Native.Nat.{◌≤◌}
use mathlib.Core.Path.{sym, ap, ◌∙◌}
use native.Mathlib.Omega.{arith}
use lib.ListN.{length}
use Rattle.std.proofs.lemmas.Result.{err_from_is_err_and}
use Rattle.frame.specs.declared.Refusal.TheVariants.{SmallBuffer}
use Rattle.frame.specs.Shape.{reply_room}
use Rattle.frame.specs.Refusal.{number_of}
use Rattle.frame.specs.Finding.{verdict_of}
use Rattle.rules.proofs.Refusals.{small-buffer, judge-refused}
use Rattle.events.proofs.Events.{frame_refused}
use Rattle.events.proofs.frame.Goals as goal
use Rattle.events.proofs.frame.Goals.{Else-out-lt-LONGEST}

-- the room is enough
roomy : (c : Else-out-lt-LONGEST) → reply_room ≤ length c.args.out.now
roomy c = omega (arith, c.if-out-lt-LONGEST.false)

pub returns-then-out-lt-LONGEST : goal.returns-then-out-lt-LONGEST
returns-then-out-lt-LONGEST c =
    let a = c.args in
    frame_refused a.frame.now (length a.out.now) SmallBuffer a.store.now a.out.now (small-buffer a.frame.now (length a.out.now) (omega (arith, c.if-out-lt-LONGEST.true)))

pub served-requires : goal.served-requires
served-requires c =
    (c.requires, sym c.judge.ensures ∙ ap verdict_of c.in_ok-f.was, roomy (goal.at.served-requires c).Else-out-lt-LONGEST)

pub returns-in_err-f : goal.returns-in_err-f
returns-in_err-f c =
    let a = c.args in
    let p = err_from_is_err_and c.from_residual.result c.from_residual.ensures.1 in
    rw (p.1, p.2)
    (frame_refused a.frame.now (length a.out.now) c.in_err-f.field-0.0 a.store.now a.out.now
    (judge-refused a.frame.now (length a.out.now) (roomy (goal.at.returns-in_err-f c).Else-out-lt-LONGEST) (number_of c.in_err-f.field-0.0) (sym c.judge.ensures ∙ ap verdict_of c.in_err-f.was)))
