-- `turning::take` meets its contract. Assumes nothing.
use mathlib.Core.Path.{refl}
use native.Mathlib.Omega.{arith}
use Rattle.turning.proofs.Turns.{goes_on, answer-short, ends}
use Rattle.turning.proofs.take.Goals as goal

pub returns-then-part-i-ne10 : goal.returns-then-part-i-ne10
returns-then-part-i-ne10 c =
    (refl, goes_on _ _ _ _ _ _ _ _ _ (λ e. c.if-part-i-ne10.true (omega (arith, e))) c.feed.ensures)

pub overflow_add-result-3 : goal.overflow_add-result-3
overflow_add-result-3 c =
    omega (arith, c.requires.1, answer-short _ c.args.p.written _ _ _ c.args.out.now _ _ _ _ _ c.answer-n.ensures)

pub returns : goal.returns
returns c = (
  refl,
  ends _ c.args.p.written _ _ _ c.args.out.now c.answer-n.result _ _ _ _ _ _ (omega (arith, c.if-part-i-ne10.false)) c.start.ensures.state-is refl
      (omega (arith, c.requires.1)) c.answer-n.ensures,
)
