-- `desk::serve` meets its contract. Assumes nothing.
use mathlib.Core.Path.{sym, ◌∙◌}
use Rattle.keeping.specs.Kept.{kept}
use Rattle.rules.proofs.Controls.{found-terms}
use Rattle.records.proofs.Answers.{plain-obeyed}
use Rattle.desk.proofs.Orders.{answered-unknown, answered-listed}
use Rattle.desk.proofs.serve.Goals as goal

pub obey_terms-requires : goal.obey_terms-requires
obey_terms-requires c =
    (c.requires.0, found-terms _ _ (sym c.decide.ensures ∙ c.in-Some.is), c.requires.1)

pub returns-in-None : goal.returns-in-None
returns-in-None c =
    plain-obeyed _ c.requires.0 _ c.args.d.low _ _ 0x80 _ _ (answered-unknown _ _ _ _ (sym c.decide.ensures ∙ c.in-None.is)) c.plain.ensures

pub returns-in-Some : goal.returns-in-Some
returns-in-Some c =
    rw (answered-listed c.args.kind (kept c.args.d.number c.args.s.now) c.args.control c.args.body.now _ (sym c.decide.ensures ∙ c.in-Some.is)) c.obey_terms.ensures
