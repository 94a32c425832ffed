-- `reader::reply_to` meets its contract: in each arm the kind is known, and the constructor of that kind makes the frame. Assumes nothing.
use mathlib.Core.Path.{◌∙◌}
use Rattle.reader.proofs.reply_to.Goals as goal

pub returns-in-Standard : goal.returns-in-Standard
returns-in-Standard c = c.frame.ensures ∙ rw (c.in-Standard.is, c.control_of-control.ensures)

pub returns-in-Advanced : goal.returns-in-Advanced
returns-in-Advanced c = c.frame-in-Advanced.ensures ∙ rw (c.in-Advanced.is, c.control_of-control.ensures)
