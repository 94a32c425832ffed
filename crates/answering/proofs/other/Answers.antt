-- `answering::other` meets its contract. Assumes nothing.
use mathlib.Core.List.{[]}
use mathlib.Core.Path.{refl, sym, ◌∙◌}
use Rattle.depot.proofs.Short.{tick-short}
use Rattle.text.proofs.Printing.{room_for}
use Rattle.answering.proofs.NoHex.{other-tick, other-sighting, other_none}
use borrow.Author.Rules.{rules}
use Rattle.answering.proofs.other.Goals as goal

pub show-requires : goal.show-requires
show-requires c =
    room_for _ _ c.args.out.now (tick-short c.args.store.now [] _ _ _ c.tick-a.ensures) c.requires

pub returns-then-is_tick : goal.returns-then-is_tick
returns-then-is_tick c =
    rw (other-tick _ (sym c.is_tick.ensures ∙ c.if-is_tick.true))
    (record { answers = (c.tick-a.result, c.tick-a.ensures, refl, c.show.ensures) })

pub sighted-requires : goal.sighted-requires
sighted-requires c = (sym c.is_sighting.ensures ∙ c.if-is_sighting.true, search rules)

pub returns-then-is_sighting : goal.returns-then-is_sighting
returns-then-is_sighting c =
    rw (other-sighting _ (sym c.is_tick.ensures ∙ c.if-is_tick.false) (sym c.is_sighting.ensures ∙ c.if-is_sighting.true))
    c.sighted.ensures

pub returns-else-is_sighting : goal.returns-else-is_sighting
returns-else-is_sighting c =
    rw (other_none _ (sym c.is_tick.ensures ∙ c.if-is_tick.false) (sym c.is_sighting.ensures ∙ c.if-is_sighting.false))
    (record { answers = (refl, refl, c.not_read.ensures) })
