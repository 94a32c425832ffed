-- `answering::framed` meets its contract. Assumes nothing.
use Prim.Native.Nat.{ℕ, ◌+◌}
use mathlib.Core.Path.{ap, ◌∙◌}
use native.Mathlib.Omega.{arith}
use lib.ListN.{length, length-take, length-replicate}
use Rattle.octets.proofs.Puts.{put-length}
use Rattle.frame.specs.Shape.{reply_room}
use Rattle.depot.proofs.Short.{frame-short}
use Rattle.answering.proofs.Long.{handed-on}
use Rattle.text.proofs.Printing.{room_for}
use Rattle.answering.proofs.framed.Goals as goal

pub slice_bounds-frame-end-2 : goal.slice_bounds-frame-end-2
slice_bounds-frame-end-2 c =
    let d = c.decode-n in
    simp length-take (omega (arith, d.ensures.0, ap length d.ensures.1 ∙ put-length _ _ _ ∙ length-replicate {A = ℕ} (reply_room + 1) 0))

-- a reply is short, so that there is room for its digits
pub show-requires : goal.show-requires
show-requires c =
    room_for _ _ c.args.out.now (frame-short c.args.store.now c.args.reply.now _ _ _ _ _ c.frame-a.ensures) c.requires

pub returns : goal.returns
returns c =
    record {
      answers = (
        c.frame-a.result,
        handed-on _ _ _ _ _ _ _ _ _ _ (length-replicate {A = ℕ} (reply_room + 1) 0) c.decode-n.ensures.0 c.decode-n.ensures.1 c.frame-a.ensures,
        c.show.ensures,
      );
    }
