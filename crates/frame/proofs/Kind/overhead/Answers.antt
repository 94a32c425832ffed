-- `frame::Kind::overhead` meets its contract: in each arm the kind is known. Assumes nothing.
use Rattle.frame.proofs.Kind.overhead.Goals as goal

pub returns-in-Standard : goal.returns-in-Standard
returns-in-Standard c = rw c.in-Standard.is

pub returns-in-Advanced : goal.returns-in-Advanced
returns-in-Advanced c = rw c.in-Advanced.is
