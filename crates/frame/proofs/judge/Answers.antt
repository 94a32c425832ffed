-- `frame::judge` meets its contract: each way out is an outcome of `judged`. Assumes nothing.
use mathlib.Core.Path.{ap, ◌∙◌}
use Rattle.frame.specs.Finding.{found}
use Rattle.frame.specs.Judged.{before_check}
use native.Mathlib.Omega.{arith}
use lib.ListN.{length-take}
use Rattle.frame.proofs.Verdict.{empty, short, long, other, unchecked, sound}
use Rattle.frame.proofs.judge.Goals as goal

pub returns-then-n-eq0 : goal.returns-then-n-eq0
returns-then-n-eq0 c = empty _ _ (omega arith)

pub returns-then-n-overhead : goal.returns-then-n-overhead
returns-then-n-overhead c = short _ _ _ c.kind_of-kind.ensures (omega arith) (omega arith)

pub returns-then-longest-n : goal.returns-then-longest-n
returns-then-longest-n c = long _ _ _ c.kind_of-kind.ensures (omega arith) (omega arith)

pub returns-then-length_said-n : goal.returns-then-length_said-n
returns-then-length_said-n c =
    other _ _ _ c.kind_of-kind.ensures (omega arith) (omega arith)
    (omega arith)

pub slice_bounds-of-length : goal.slice_bounds-of-length
slice_bounds-of-length c = simp length-take (omega arith)

pub returns-then-check_said-of : goal.returns-then-check_said-of
unfolding before_check
returns-then-check_said-of c =
    unchecked _ _ _ c.kind_of-kind.ensures (omega arith) (omega arith)
    (omega arith) (omega arith)

pub returns : goal.returns
unfolding before_check
returns c =
    ap found c.parts.ensures
    ∙ sound _ _ _ c.kind_of-kind.ensures (omega arith) (omega arith) (omega arith) (omega arith)
