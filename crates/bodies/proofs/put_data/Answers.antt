-- `bodies::put_data` meets its contract. Assumes nothing.
use mathlib.Core.Path.{refl, ◌∙◌}
use lib.Dec.{lit≤}
use Rattle.bodies.proofs.Body.{room_as, data-as, data-none}
use borrow.Author.Tests.{ltb-true}
use Rattle.requests.proofs.Values.{holds_as, times}
use borrow.Author.Rules.{rules}
use Rattle.bodies.proofs.put_data.Goals as goal

pub put_octet-requires : goal.put_octet-requires
put_octet-requires c = (ltb-true _ _ (holds_as _ _ c.requires.0 c.in-Baud.is), room_as _ _ _ _ (search rules) c.requires.1 c.in-Baud.is)

pub put_octet-requires-in-ReadBlock : goal.put_octet-requires-in-ReadBlock
put_octet-requires-in-ReadBlock c = (ltb-true _ _ (holds_as _ _ c.requires.0 c.in-ReadBlock.is), room_as _ _ _ _ (search rules) c.requires.1 c.in-ReadBlock.is)

pub put_block-requires : goal.put_block-requires
put_block-requires c = (ltb-true _ _ (holds_as _ _ c.requires.0 c.in-WriteBlock.is), room_as _ _ _ _ (search rules) c.requires.1 c.in-WriteBlock.is)

pub put_octet-requires-in-SaveBlocks : goal.put_octet-requires-in-SaveBlocks
put_octet-requires-in-SaveBlocks c = (ltb-true _ _ (holds_as _ _ c.requires.0 c.in-SaveBlocks.is), room_as _ _ _ _ (search rules) c.requires.1 c.in-SaveBlocks.is)

pub put_octet-requires-in-RestoreBlocks : goal.put_octet-requires-in-RestoreBlocks
put_octet-requires-in-RestoreBlocks c = (ltb-true _ _ (holds_as _ _ c.requires.0 c.in-RestoreBlocks.is), room_as _ _ _ _ (search rules) c.requires.1 c.in-RestoreBlocks.is)

pub put_timer-requires : goal.put_timer-requires
put_timer-requires c =
    let t = times _ _ _ _ c.requires.0 c.in-SetTimer.is in
    (t.hour, t.minute, t.milli, room_as _ _ _ _ (search rules) c.requires.1 c.in-SetTimer.is)

pub put-requires : goal.put-requires
put-requires c = (lit≤ tt, room_as _ _ _ _ (search rules) c.requires.1 c.in-Login.is)

pub put-requires-in-ReadRecords : goal.put-requires-in-ReadRecords
put-requires-in-ReadRecords c = (lit≤ tt, room_as _ _ _ _ (search rules) c.requires.1 c.in-ReadRecords.is)

pub returns-in-Baud : goal.returns-in-Baud
returns-in-Baud c = c.put_octet.ensures ∙ data-as _ _ _ _ c.in-Baud.is

pub returns-in-Reset : goal.returns-in-Reset
returns-in-Reset c = data-none _ _ _ _ c.in-Reset.is refl

pub returns-in-SystemReset : goal.returns-in-SystemReset
returns-in-SystemReset c = data-none _ _ _ _ c.in-SystemReset.is refl

pub returns-in-ReadBlock : goal.returns-in-ReadBlock
returns-in-ReadBlock c = c.put_octet-in-ReadBlock.ensures ∙ data-as _ _ _ _ c.in-ReadBlock.is

pub returns-in-WriteBlock : goal.returns-in-WriteBlock
returns-in-WriteBlock c = c.put_block.ensures ∙ data-as _ _ _ _ c.in-WriteBlock.is

pub returns-in-SaveBlocks : goal.returns-in-SaveBlocks
returns-in-SaveBlocks c = c.put_octet-in-SaveBlocks.ensures ∙ data-as _ _ _ _ c.in-SaveBlocks.is

pub returns-in-RestoreBlocks : goal.returns-in-RestoreBlocks
returns-in-RestoreBlocks c = c.put_octet-in-RestoreBlocks.ensures ∙ data-as _ _ _ _ c.in-RestoreBlocks.is

pub returns-in-SetTimer : goal.returns-in-SetTimer
returns-in-SetTimer c = c.put_timer.ensures ∙ data-as _ _ _ _ c.in-SetTimer.is

pub returns-in-SendTimer : goal.returns-in-SendTimer
returns-in-SendTimer c = data-none _ _ _ _ c.in-SendTimer.is refl

pub returns-in-Login : goal.returns-in-Login
returns-in-Login c = c.put.ensures ∙ data-as _ _ _ _ c.in-Login.is

pub returns-in-ReadRecords : goal.returns-in-ReadRecords
returns-in-ReadRecords c = c.put-in-ReadRecords.ensures ∙ data-as _ _ _ _ c.in-ReadRecords.is

pub returns-in-SendTable : goal.returns-in-SendTable
returns-in-SendTable c = data-none _ _ _ _ c.in-SendTable.is refl

pub returns-in-RemoveRecords : goal.returns-in-RemoveRecords
returns-in-RemoveRecords c = data-none _ _ _ _ c.in-RemoveRecords.is refl

pub returns-in-ClearRecords : goal.returns-in-ClearRecords
returns-in-ClearRecords c = data-none _ _ _ _ c.in-ClearRecords.is refl
