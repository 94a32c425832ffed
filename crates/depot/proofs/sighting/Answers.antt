-- `depot::sighting` meets its contract: refusal 1, or what the event did. Assumes nothing.
use Rattle.depot.proofs.Calls.{unsound, called}
use Rattle.std.proofs.Common.{sym, ◌∙◌}
use Rattle.depot.proofs.sighting.Goals as goal

pub returns : goal.returns
returns c =
    called _ _ _ _ _ _ (sym c.fit.ensures ∙ c.if-not-fit.false) c.sighting.ensures

pub returns-then-not-fit : goal.returns-then-not-fit
returns-then-not-fit c = unsound _ _ _ (sym c.fit.ensures ∙ c.if-not-fit.true)

pub sighting-requires : goal.sighting-requires
sighting-requires c = (sym c.fit.ensures ∙ c.if-not-fit.false)
