-- `maker::frame_of` meets its contract: in each arm the kind is known, and the constructor of that kind makes the frame. Assumes nothing.
use mathlib.Core.Path.{◌∙◌}
use Rattle.maker.proofs.frame_of.Goals as goal

pub returns-in-Standard : goal.returns-in-Standard
returns-in-Standard c = c.frame.ensures ∙ rw c.in-Standard.is

pub returns-in-Advanced : goal.returns-in-Advanced
returns-in-Advanced c = c.frame-in-Advanced.ensures ∙ rw c.in-Advanced.is
