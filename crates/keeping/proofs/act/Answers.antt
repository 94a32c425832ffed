-- `keeping::act` meets its contract: the row is lent, changed and back. Assumes nothing.
use Rattle.keeping.proofs.Rows.{lent-fit, lent-few, lent-done}
use Rattle.keeping.proofs.act.Goals as goal

pub act-requires : goal.act-requires
act-requires c =
    (lent-fit _ c.requires.0 c.args.d.number c.args.d.low _ c.row_at-at.ensures.0, lent-few _ c.requires.0 c.args.d.number c.args.d.low _ c.row_at-at.ensures.0)

pub returns : goal.returns
returns c =
    lent-done c.args.s.now c.requires.0 c.args.d.number c.args.d.low c.row_at-at.result c.row_at-at.ensures.0 _ c.act.new.row c.act.ensures c.requires.1
