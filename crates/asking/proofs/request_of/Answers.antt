-- `asking::request_of` meets its contract. Assumes nothing.
use Rattle.asking.specs.Numbers.{request_of}
use Rattle.asking.proofs.request_of.Goals as goal

pub returns : goal.returns
unfolding request_of
returns c =
    rw (← c.kind_of.ensures, ← c.octet_of-octet.ensures, ← c.is_whole.ensures, ← c.ask_if.ensures, ← c.bytes_in.ensures)
