-- `crc::of` meets its contract. Assumes nothing.
use Rattle.std.proofs.Common.{refl, sym, ◌∙◌, arith}
use Rattle.crc.specs.Crc.{crc}
use Rattle.crc.proofs.Laws.{crc_from-next, crc_from-end}
use Rattle.crc.proofs.of.Goals as goal

pub loop-b-init : goal.loop-b-init
unfolding crc
loop-b-init c = refl

pub loop-b-preserved : goal.loop-b-preserved
loop-b-preserved c =
    let next = crc_from-next c.loop-b.c c.args.s.now c.loop-b.b-index (omega arith) in
    rw c.octet-c.ensures (sym next ∙ c.loop-b.invariant)

pub returns : goal.returns
returns c =
    sym (crc_from-end c.loop-b.c c.args.s.now c.loop-b.b-index (omega arith)) ∙ c.loop-b.invariant
