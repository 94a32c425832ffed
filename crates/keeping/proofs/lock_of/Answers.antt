-- `keeping::lock_of` meets its contract. Assumes nothing.
use mathlib.Core.Path.{ap, ◌∙◌}
use lib.ListN.{length-take, length-drop}
use Rattle.locks.specs.Locks.{found_in}
use native.Mathlib.Omega.{arith}
use Rattle.keeping.proofs.RowRead.{few-there, locks-lent}
use Rattle.keeping.proofs.lock_of.Goals as goal

pub lookup_in-requires : goal.lookup_in-requires
lookup_in-requires c =
    let few = few-there _ c.requires c.args.d.number c.args.d.low _ c.row_at-row.ensures.0 in
    (few, simp (length-take, length-drop) (omega (arith, c.row_at-row.ensures.1, few)))

pub returns : goal.returns
returns c =
    c.lookup_in.ensures ∙ ap (found_in c.args.uid) (locks-lent c.args.s.now c.requires c.args.d.number c.args.d.low _ c.row_at-row.ensures.0)

pub overflow_cast-n : goal.overflow_cast-n
overflow_cast-n c = omega (arith, few-there _ c.requires c.args.d.number c.args.d.low _ c.row_at-row.ensures.0)
