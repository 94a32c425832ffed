-- `crc::octet` meets its contract: its shifts are the eight bit steps. Assumes nothing.
use lib.Bits.{bit_xor}
use Rattle.crc.specs.Crc.{octet_step}
use Rattle.crc.proofs.Steps.{shifts}
use Rattle.crc.proofs.octet.Goals as goal

pub returns : goal.returns
unfolding octet_step
returns c = shifts (bit_xor c.args.c c.args.b)
