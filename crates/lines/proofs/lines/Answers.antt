-- `lines::lines` meets its contract: block 7, then the data, then the room. Assumes nothing.
use Rattle.std.proofs.Common.{sym, ◌∙◌}
use Rattle.typed.proofs.Telling.{count-is, count-not}
use Rattle.lines.proofs.Turns.{records-length}
use Rattle.lines.proofs.Outcomes.{all-illegal, no-data}
use Rattle.lines.proofs.lines.Goals as goal

pub returns-in_default : goal.returns-in_default
returns-in_default c = all-illegal _ _ _ (sym c.in_default.ensures.legal)

pub returns-in_default-count_in : goal.returns-in_default-count_in
returns-in_default-count_in c = no-data _ _ _ (sym c.in-Some.ensures.legal) (count-not _ _ c.in_default-count_in.ensures)

pub put_all-requires : goal.put_all-requires
put_all-requires c =
    let i = count-is _ c.in-Ok.m c.in-Ok.ensures in
    (i.0, i.1 ∙ sym (records-length _))
