-- `events::served` meets its contract: refusal 5, or the reply of the desk. Assumes nothing.
use Prim.Native.Nat.{◌<◌}
use mathlib.Core.Path.{sym, ◌∙◌}
use lib.ListN.{length}
use borrow.Author.Tests.{leb-true, leb-false}
use Rattle.frame.specs.declared.Refusal.TheVariants.{NoDesk}
use Rattle.table.specs.Entries.{desks}
use Rattle.rules.proofs.Refusals.{no-desk}
use Rattle.events.proofs.Events.{frame_refused, frame-replied}
use Rattle.events.proofs.served.Goals as goal
use Rattle.events.proofs.served.Goals.{Else-no_desk}

low : (c : Else-no_desk) → c.args.f.address < desks
low c = leb-false _ _ (sym c.no_desk.ensures ∙ c.if-no_desk.false)

pub returns-then-no_desk : goal.returns-then-no_desk
returns-then-no_desk c =
    let a = c.args in
    frame_refused a.frame.now (length a.out.now) NoDesk a.store.now a.out.now
    (no-desk a.frame.now (length a.out.now) c.requires.2 a.f c.requires.1 (leb-true _ _ (sym c.no_desk.ensures ∙ c.if-no_desk.true)))

pub reply-requires : goal.reply-requires
reply-requires c =
    (c.requires.0, c.requires.1, low (goal.at.reply-requires c).Else-no_desk, c.requires.2)

pub returns : goal.returns
returns c =
    let a = c.args in
    frame-replied a.frame.now a.store.now _ a.out.now _ a.f c.reply.result c.requires.1 c.requires.2 (low (goal.at.returns c).Else-no_desk) c.reply.ensures
