-- `seal::write_head` meets its contract: two octets after the lead. Assumes nothing.
use lib.ListN.{length-set}
use mathlib.Core.Path.{◌∙◌}
use Rattle.frame.specs.Shape.{shape_of}
use Rattle.frame.specs.Sealed.{lead_of}
use Rattle.octets.proofs.Joins.{put_two, put_next}
use Rattle.frame.proofs.Lengths.{length-lead}
use native.Mathlib.Omega.{arith}
use Rattle.seal.proofs.write_head.Goals as goal

pub bounds-out-lead-2 : goal.bounds-out-lead-2
bounds-out-lead-2 c = simp length-set (omega arith)

pub returns : goal.returns
returns c =
    let a = c.args in
    rw (c.write_lead.ensures, c.lead-lead.ensures)
    (put_two (shape_of a.kind).lead _ _ _ ∙ put_next (lead_of a.kind a.n) _ a.out.now _ (length-lead a.kind a.n))
