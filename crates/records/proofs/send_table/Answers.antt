-- `records::send_table` meets its contract. Assumes nothing.
use mathlib.Core.Path.{refl}
use Rattle.records.proofs.TableAnswers.{table-sent}
use Rattle.records.proofs.send_table.Goals as goal

pub returns : goal.returns
returns c =
    table-sent _ c.requires.0 _ c.args.d.low _ _ _ _ _ _ _ _ _ c.data_at-to.ensures.0 c.marks_of.ensures c.held.ensures.0 refl c.put.ensures c.put-2.ensures c.put-3.ensures
