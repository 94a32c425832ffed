-- `seal::write_standard_lead` meets its contract. Assumes nothing.
use mathlib.Core.Path.{sym}
use Rattle.octets.proofs.Puts.{put_one}
use Rattle.seal.proofs.write_standard_lead.Goals as goal

pub returns : goal.returns
returns c = sym (put_one 0 _ c.args.out.now)
