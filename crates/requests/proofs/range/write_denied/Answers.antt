-- `requests::range::write_denied` meets its contract: what the check finds alone too, said such that an edit falls at the block. Assumes nothing.
use mathlib.Core.Path.{sym, ap, ◌∙◌}
use mathlib.Core.Bool.{not}
use native.Mathlib.Omega.{arith}
use borrow.Author.Tests.{eq-eqb}
use Rattle.rules.specs.Config.{block_of, line_legal}
use Rattle.requests.proofs.range.write_denied.Goals as goal

pub returns-then-block_of-eq7 : goal.returns-then-block_of-eq7
unfolding line_legal
returns-then-block_of-eq7 c =
    rw (sym c.names_one.ensures ∙ c.if-not-names_one.false, eq-eqb (block_of c.args.adr) 7 (omega arith)) (ap not c.shape_legal.ensures)
