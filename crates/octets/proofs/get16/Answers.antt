-- `octets::get16` meets its contract. Assumes nothing.
use Rattle.std.proofs.Common.{arith}
use Rattle.octets.proofs.Numbers.{u16_at-is}
use Rattle.octets.proofs.get16.Goals as goal

pub returns : goal.returns
returns c = omega (arith, c.from_be_bytes.ensures, u16_at-is c.args.at c.args.s.now (omega arith))
