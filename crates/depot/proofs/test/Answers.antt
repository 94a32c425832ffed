-- `depot::test` meets its contract. Assumes nothing.
use Rattle.std.specs.Prelude.{Err}
use mathlib.Core.Path.{refl, sym, ◌∙◌}
use Rattle.octets.specs.Tests.{first}
use Rattle.frame.specs.declared.Refusal.TheVariants.{Unsound}
use Rattle.frame.proofs.Numbers.{refuses}
use Rattle.depot.specs.Called.{test_refusals}
use Rattle.depot.proofs.test.Goals as goal

pub returns-then-fit : goal.returns-then-fit
unfolding first test_refusals
returns-then-fit c = record { tested = rw (sym c.fit.ensures ∙ c.if-fit.true) refl }

pub returns : goal.returns
unfolding first test_refusals
returns c = record { tested = rw (sym c.fit.ensures ∙ c.if-fit.false) (refuses Err Unsound) }
