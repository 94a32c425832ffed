-- `dispatch::on_table` meets its contract: each by its command. Assumes nothing.
use Rattle.dispatch.proofs.Answers.{obeyed-for, sized-two}
use Rattle.dispatch.proofs.on_table.Goals as goal

pub read-requires : goal.read-requires
read-requires c = (c.requires.0, sized-two _ _ c.in-ReadRecords.is c.requires.1, c.requires.2)

pub returns-in-SystemReset : goal.returns-in-SystemReset
returns-in-SystemReset c = obeyed-for _ _ _ _ _ _ _ _ _ _ c.in-SystemReset.is (c.system_reset.ensures.obeyed _ _ _)

pub returns-in-ReadRecords : goal.returns-in-ReadRecords
returns-in-ReadRecords c = obeyed-for _ _ _ _ _ _ _ _ _ _ c.in-ReadRecords.is c.read.ensures

pub returns-in-SendTable : goal.returns-in-SendTable
returns-in-SendTable c = obeyed-for _ _ _ _ _ _ _ _ _ _ c.in-SendTable.is (c.send_table.ensures.obeyed _)

pub returns-in-RemoveRecords : goal.returns-in-RemoveRecords
returns-in-RemoveRecords c = obeyed-for _ _ _ _ _ _ _ _ _ _ c.in-RemoveRecords.is (c.remove.ensures.obeyed _ _ _)

pub returns-in-ClearRecords : goal.returns-in-ClearRecords
returns-in-ClearRecords c = obeyed-for _ _ _ _ _ _ _ _ _ _ c.in-ClearRecords.is (c.clear.ensures.obeyed _ _ _)
