-- `store::start` meets its contract. Assumes nothing.
use mathlib.Core.Path.{sym, ◌∙◌}
use native.Mathlib.Omega.{arith}
use Rattle.store.specs.Layout.{start_of}
use Rattle.store.proofs.Headers.{start-read}
use Rattle.store.proofs.start.Goals as goal

pub returns-then-k-eq-HEADER_AREA : goal.returns-then-k-eq-HEADER_AREA
unfolding start_of
returns-then-k-eq-HEADER_AREA c = (rw c.if-k-eq-HEADER_AREA.true, omega arith)

pub returns-else-k-eq-HEADER_AREA : goal.returns-else-k-eq-HEADER_AREA
returns-else-k-eq-HEADER_AREA c = (c.get16.ensures ∙ sym (start-read _ _ c.requires.0 c.if-k-eq-HEADER_AREA.false), omega arith)
