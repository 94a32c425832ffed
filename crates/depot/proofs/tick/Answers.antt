-- `depot::tick` meets its contract: refusal 1, or what the event did. Assumes nothing.
use Rattle.depot.proofs.Calls.{unsound, called}
use Rattle.std.proofs.Common.{sym, ◌∙◌}
use Rattle.depot.proofs.tick.Goals as goal

pub returns : goal.returns
returns c =
    called _ _ _ _ _ _ (sym c.fit.ensures ∙ c.if-not-fit.false) c.tick.ensures

pub returns-then-not-fit : goal.returns-then-not-fit
returns-then-not-fit c = unsound _ _ _ (sym c.fit.ensures ∙ c.if-not-fit.true)

pub tick-requires : goal.tick-requires
tick-requires c = (sym c.fit.ensures ∙ c.if-not-fit.false)
