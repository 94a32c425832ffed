-- `maker::make` meets its contract. Assumes nothing.
use Prim.Native.Nat.{◌<◌}
use mathlib.Core.Path.{◌≡◌, sym, ap, ◌∙◌}
use mathlib.Core.Bool.{false}
use lib.ListN.{length}
use borrow.Author.Tests.{leb-true, leb-false}
use Rattle.frame.specs.declared.Way.TheVariants.{Request}
use Rattle.seal.specs.Buffer.{fits_in}
use Rattle.table.specs.Entries.{desks}
use Rattle.rules.specs.Config.{block_size}
use Rattle.rules.specs.declared.control.Terms.{Terms}
use Rattle.maker.proofs.Making.{size-listed, refused-desk, refused-range, refused-room, no_room}
use borrow.Author.Rules.{rules}
use Rattle.maker.proofs.make.Goals as goal
use Rattle.maker.proofs.make.Goals.{Else-no_desk}

sized : (c : Else-no_desk) → length c.args.q.bytes ≡ block_size
sized c = search rules

low : (c : Else-no_desk) → c.args.q.desk < desks
low c = leb-false _ _ (sym c.no_desk.ensures ∙ c.if-no_desk.false)

pub returns-then-not-has_room : goal.returns-then-not-has_room
returns-then-not-has_room c =
    let q = c.args.q in
    let full : fits_in Request q.kind c.terms_of-t.result.size (length c.args.out.now) ≡ false = (sym c.has_room.ensures ∙ c.if-not-has_room.true) in
    refused-room _ _ (low (goal.at.returns-then-not-has_room c).Else-no_desk) (sym c.in_range.ensures ∙ c.if-not-in_range.false)
    (no_room q _ (sized (goal.at.returns-then-not-has_room c).Else-no_desk) (rw (size-listed q c.terms_of-t.result (sized (goal.at.returns-then-not-has_room c).Else-no_desk) c.terms_of-t.ensures) at full))

pub put_frame-requires : goal.put_frame-requires
put_frame-requires c =
    let q = c.args.q in (
      low (goal.at.put_frame-requires c).Else-no_desk,
      (sym c.in_range.ensures ∙ c.if-not-in_range.false),
      size-listed q c.terms_of-t.result (sized (goal.at.put_frame-requires c).Else-no_desk) c.terms_of-t.ensures,
      ap (λ (x : Terms). x.control) c.terms_of-t.ensures,
      (sym c.has_room.ensures ∙ c.if-not-has_room.false),
    )

pub returns-then-no_desk : goal.returns-then-no_desk
returns-then-no_desk c = refused-desk _ _ (leb-true _ _ (sym c.no_desk.ensures ∙ c.if-no_desk.true))

pub returns-then-not-in_range : goal.returns-then-not-in_range
returns-then-not-in_range c = refused-range _ _ (low (goal.at.returns-then-not-in_range c).Else-no_desk) (sym c.in_range.ensures ∙ c.if-not-in_range.true)
