-- `reader::read` meets its contract. Assumes nothing.
use mathlib.Core.Path.{sym, ◌∙◌}
use Rattle.std.proofs.lemmas.Result.{err_from_is_err_and}
use Rattle.reader.proofs.Judging.{read-refused, read_answer, read-other}
use Rattle.reader.proofs.read.Goals as goal

pub returns-in_err-f : goal.returns-in_err-f
returns-in_err-f c =
    let p = err_from_is_err_and c.from_residual.result c.from_residual.ensures.1 in
    rw (p.1, p.2) (read-refused _ _ _ (sym c.in_err-f.ensures))

pub told_of-t-requires : goal.told_of-t-requires
told_of-t-requires c = sym c.in_ok-f.ensures

pub answers_to-requires : goal.answers_to-requires
answers_to-requires c = (sym c.in_ok-f.ensures, c.told_of-t.ensures)

pub returns-then-not-answers_to : goal.returns-then-not-answers_to
returns-then-not-answers_to c = read-other _ _ _ (sym c.in_ok-f.ensures) (sym c.answers_to.ensures ∙ c.if-not-answers_to.true)

pub returns : goal.returns
returns c = read_answer _ _ _ (sym c.in_ok-f.ensures) _ c.told_of-t.ensures (sym c.answers_to.ensures ∙ c.if-not-answers_to.false)
