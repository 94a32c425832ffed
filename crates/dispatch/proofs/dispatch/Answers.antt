-- `dispatch::dispatch` meets its contract. Assumes nothing.
use Rattle.dispatch.proofs.Answers.{obeyed-of, sized_of}
use Rattle.dispatch.proofs.dispatch.Goals as goal

pub on_row-requires : goal.on_row-requires
on_row-requires c = (c.requires.0, sized_of _ _ _ c.in-OnRow.is c.requires.1, c.requires.2)

pub on_table-requires : goal.on_table-requires
on_table-requires c = (c.requires.0, sized_of _ _ _ c.in-OnTable.is c.requires.1, c.requires.2)

pub returns-in-OnRow : goal.returns-in-OnRow
returns-in-OnRow c = obeyed-of _ _ _ _ _ _ _ _ _ _ c.in-OnRow.is c.on_row.ensures

pub returns-in-OnTable : goal.returns-in-OnTable
returns-in-OnTable c = obeyed-of _ _ _ _ _ _ _ _ _ _ c.in-OnTable.is c.on_table.ensures
