-- `records::send` meets its contract: those that fit go, and are due. Assumes nothing.
use native.Mathlib.Omega.{arith}
use mathlib.Core.Path.{refl, ◌∙◌}
use Rattle.keeping.proofs.Rows.{kept-legal}
use Rattle.records.proofs.TableAnswers.{due-legal, records-sent}
use Rattle.records.proofs.send.Goals as goal

pub tell_records-requires : goal.tell_records-requires
tell_records-requires c =
    (c.requires.0, omega (arith, c.min-n.ensures), omega (arith, c.most_sent.ensures.1, c.min-n.ensures, c.data_at.ensures.1))

pub act-requires : goal.act-requires
act-requires c =
    (c.requires.0, due-legal _ (kept-legal _ c.requires.0 _ c.args.d.low) _ (omega (arith, c.min-n.ensures)))

pub returns : goal.returns
returns c =
    records-sent c.args.s.now c.requires.0 c.args.d.number c.args.d.low c.args.kind _ c.args.wanted c.min-n.result c.status_of-status.result c.marks_of.result _ c.args.out.now _
    c.requires.1 (c.min-n.ensures ∙ rw c.most_sent.ensures.0) c.marks_of.ensures c.status_of-status.ensures refl (rw c.data_at.ensures.0 at c.tell_records.ensures) c.act.ensures
