-- `desk::obey_terms` meets its contract: one test after the other, then the command. Assumes nothing.
use mathlib.Core.Path.{sym, ◌∙◌}
use native.Mathlib.Omega.{arith}
use Rattle.keeping.specs.Kept.{kept}
use Rattle.records.proofs.Answers.{plain-obeyed}
use Rattle.desk.proofs.Orders.{sized, obey-length, obey-barred, obey-ruled}
use Rattle.desk.proofs.obey_terms.Goals as goal

pub returns-then-body-t : goal.returns-then-body-t
returns-then-body-t c =
    plain-obeyed _ c.requires.0 _ c.args.d.low _ _ 0x81 _ _ (obey-length _ c.requires.1 _ _ _ c.if-body-t.true) c.plain.ensures

pub returns-then-barred : goal.returns-then-barred
returns-then-barred c =
    plain-obeyed _ c.requires.0 _ c.args.d.low _ _ 0x13 _ _ (obey-barred _ c.requires.1 _ _ _ (omega (arith, c.if-body-t.false)) (sym c.barred.ensures ∙ c.if-barred.true)) c.plain-then-barred.ensures

pub dispatch-requires : goal.dispatch-requires
dispatch-requires c =
    (c.requires.0, sized _ c.requires.1 _ (omega (arith, c.if-body-t.false)), c.requires.2)

pub returns : goal.returns
returns c =
    rw (obey-ruled c.args.t c.requires.1 c.args.kind (kept c.args.d.number c.args.s.now) c.args.body.now (omega (arith, c.if-body-t.false)) (sym c.barred.ensures ∙ c.if-barred.false)) c.dispatch.ensures
