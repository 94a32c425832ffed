-- `pieces::mark_of` meets its contract: each arm is a bit. Assumes nothing.
use mathlib.Core.Path.{refl}
use native.Mathlib.Omega.{arith}
use lib.Count.{trailing_le}
use Rattle.rules.specs.Line.{tab, marks}
use Rattle.pieces.proofs.Marks.{chosen}
use Rattle.pieces.proofs.mark_of.Goals as goal

pub returns-in-0 : goal.returns-in-0
unfolding marks
returns-in-0 c = chosen _ _ _ 0 c.in-0.is refl

pub returns-in-1 : goal.returns-in-1
unfolding marks
returns-in-1 c = chosen _ _ _ 1 c.in-1.is refl

pub returns-in-2 : goal.returns-in-2
unfolding marks
returns-in-2 c = chosen _ _ _ 2 c.in-2.is refl

pub returns-in-3 : goal.returns-in-3
unfolding marks tab
returns-in-3 c = chosen _ _ _ 3 c.in-3.is refl

pub returns-in-4 : goal.returns-in-4
unfolding marks
returns-in-4 c = chosen _ _ _ 4 c.in-4.is refl

pub returns-in-5 : goal.returns-in-5
unfolding marks
returns-in-5 c = chosen _ _ _ 5 c.in-5.is refl

pub returns-in-6 : goal.returns-in-6
unfolding marks
returns-in-6 c = chosen _ _ _ 6 c.in-6.is refl

pub returns-in-7 : goal.returns-in-7
unfolding marks
returns-in-7 c = chosen _ _ _ 7 c.in-7.is refl

-- no bit
pub returns-in_default : goal.returns-in_default
unfolding marks
returns-in_default c = chosen _ _ _ 8 (omega (arith, trailing_le 8 c.args.char)) refl
