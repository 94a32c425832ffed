-- `reader::told_of` meets its contract. Assumes nothing.
use mathlib.Core.Path.{refl}
use native.Mathlib.Omega.{arith}
use Rattle.frame.specs.declared.Way.TheVariants.{Reply}
use Rattle.frame.proofs.Verdict.{sound-fits}
use Rattle.reader.specs.Reader.{told_of}
use Rattle.reader.proofs.Judging.{reply-start}
use Rattle.reader.proofs.told_of.Goals as goal

pub overflow_sub-result : goal.overflow_sub-result
overflow_sub-result c = omega (arith, reply-start _ _ c.requires)

pub bounds-reply-f : goal.bounds-reply-f
bounds-reply-f c =
    omega (arith, reply-start _ _ c.requires, sound-fits Reply _ _ c.requires)

pub returns : goal.returns
unfolding told_of
returns c = refl
