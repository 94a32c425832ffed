-- `seal::seal_reply` meets its contract: the status is the first octet of the body. Assumes nothing.
use Rattle.std.specs.Prelude.{Some}
use native.Mathlib.Omega.{arith}
use mathlib.Core.Path.{sym, ap, ◌∙◌}
use lib.ListN.{length-set}
use Rattle.frame.proofs.Bounds.{lead-small, longest-small}
use Rattle.seal.specs.Buffer.{sealed_as, reply_in}
use Rattle.seal.proofs.Room.{within, status-as-body}
use Rattle.seal.proofs.Seal.{replied}
use Rattle.seal.proofs.seal_reply.Goals as goal

pub returns-then-not-has_room : goal.returns-then-not-has_room
unfolding sealed_as reply_in
returns-then-not-has_room c =
    let no = sym c.has_room.ensures ∙ c.if-not-has_room.true in
    record { value = rw no; out_after = rw no }

pub overflow_add-at : goal.overflow_add-at
overflow_add-at c = omega (arith, lead-small c.args.kind)

pub bounds-out-at : goal.bounds-out-at
bounds-out-at c =
    let yes = sym c.has_room.ensures ∙ c.if-not-has_room.false in
    omega (arith, within _ _ _ _ yes)

pub overflow_add-len : goal.overflow_add-len
overflow_add-len c =
    let yes = sym c.has_room.ensures ∙ c.if-not-has_room.false in
    omega (arith, within _ _ _ _ yes, longest-small c.args.kind)

pub close-requires : goal.close-requires
close-requires c =
    let yes = sym c.has_room.ensures ∙ c.if-not-has_room.false in
    rw (length-set, status-as-body) yes

pub shape_of-out : goal.shape_of-out
shape_of-out c = c.close.auto.out ∙ simp length-set

pub returns : goal.returns
unfolding sealed_as reply_in
returns c =
    let a = c.args in
    let yes = sym c.has_room.ensures ∙ c.if-not-has_room.false in
    let room = (within _ _ _ _ yes).1 in record {
      value = rw yes (ap Some (omega arith));
      out_after = rw (yes, c.close.ensures.out_after, c.lead-at.ensures)
          (replied a.kind a.address a.control a.status a.len a.out.now room);
    }
