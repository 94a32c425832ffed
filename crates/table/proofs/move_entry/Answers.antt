-- `table::move_entry` meets its contract where the entry is in its place. Assumes nothing.
use Rattle.std.proofs.Common.{sym}
use Rattle.octets.proofs.Puts.{put-part}
use Rattle.table.proofs.move_entry.Goals as goal

pub returns-else-j-i : goal.returns-else-j-i
returns-else-j-i c = rw c.if-j-i.false (sym (put-part _ _ _))
