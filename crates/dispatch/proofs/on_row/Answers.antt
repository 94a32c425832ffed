-- `dispatch::on_row` meets its contract: the row is lent, obeys and is back. Assumes nothing.
use Rattle.octets.proofs.Each.{octets-each}
use Rattle.keeping.proofs.Rows.{lent-fit}
use Rattle.dispatch.proofs.Answers.{row-obeyed}
use Rattle.dispatch.proofs.on_row.Goals as goal

pub obey-requires : goal.obey-requires
obey-requires c =
    (lent-fit _ c.requires.0 c.args.d.number c.args.d.low _ c.row_at-at.ensures.0, c.requires.1, c.requires.2)

pub returns : goal.returns
returns c =
    row-obeyed c.args.s.now c.requires.0 c.args.d.number c.args.d.low c.row_at-at.result c.row_at-at.ensures.0 _ _ c.args.body.now _ c.obey.new.row _ _
    (octets-each c.args.body.now (λ i. (c.type_inv.body i).fits)) c.requires.1 c.obey.ensures
