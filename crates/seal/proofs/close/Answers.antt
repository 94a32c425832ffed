-- `seal::close` meets its contract: the head, and then the checksum of what stands before it. Assumes nothing.
use native.Mathlib.Omega.{arith}
use Rattle.frame.proofs.Bounds.{longest-small}
use Rattle.seal.proofs.Room.{within}
use Rattle.seal.proofs.Seal.{closed}
use Rattle.seal.proofs.close.Goals as goal

pub overflow_add-n : goal.overflow_add-n
overflow_add-n c = omega (arith, within _ _ _ _ c.requires, longest-small c.args.kind)

pub write_head-requires : goal.write_head-requires
write_head-requires c = omega (arith, within _ _ _ _ c.requires)

pub write_check-requires : goal.write_check-requires
write_check-requires c = omega (arith, within _ _ _ _ c.requires)

pub returns : goal.returns
returns c =
    let a = c.args in
    let room = (within _ _ _ _ c.requires).1 in record {
      value = omega arith;
      out_after = rw (c.write_check.ensures, c.write_head.ensures, c.overhead.ensures)
          (closed a.kind a.address a.control a.len a.out.now room);
    }
