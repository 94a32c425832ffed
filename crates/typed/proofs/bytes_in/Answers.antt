-- `typed::bytes_in` meets its contract. Assumes nothing.
use Rattle.typed.proofs.Bytes.{bytes-said}
use Rattle.typed.proofs.bytes_in.Goals as goal

pub returns : goal.returns
returns c = bytes-said c.block_in.result c.args.sent.now c.unwrap_or.result c.unwrap_or.ensures c.block_in.ensures
