-- `keeping::marks_of` meets its contract. Assumes nothing.
use Rattle.keeping.proofs.RowRead.{marks-read}
use Rattle.keeping.proofs.marks_of.Goals as goal

pub returns : goal.returns
returns c = marks-read c.args.s.now c.requires c.args.d.number c.args.d.low c.row_at-at.result c.row_at-at.ensures.0
