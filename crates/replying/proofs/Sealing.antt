-- A reply is sealed around the data that stand at their place, and the octets after it stay. Assumes nothing.
use Rattle.std.specs.Prelude.{Some, None}
use Prim.Native.Nat.{ℕ, ◌+◌, ◌≤◌, ◌<◌}
use mathlib.Core.Path.{◌≡◌, ap, ◌∙◌}
use mathlib.Core.Bool.{true}
use mathlib.Core.List.{List, ◌∷◌}
use native.Mathlib.Omega.{arith}
use lib.ListN.{length}
use Rattle.octets.specs.Parts.{part, put}
use Rattle.octets.proofs.Puts.{put-length, part-put-same, put-over}
use Rattle.frame.specs.declared.Kind.{Kind}
use Rattle.frame.specs.declared.Way.TheVariants.{Request, Reply}
use Rattle.frame.specs.Shape.{shape_of, reply_room, overhead, data_at}
use Rattle.frame.specs.declared.Frame.{Frame}
use Rattle.frame.specs.Finding.{found}
use Rattle.frame.specs.Judged.{judged, data_of}
use Rattle.frame.specs.Sealed.{frame_of}
use Rattle.frame.proofs.Bounds.{longest-fits}
use Rattle.frame.proofs.Lengths.{length-frame}
use Rattle.frame.proofs.Verdict.{sound-parts}
use Rattle.seal.specs.Buffer.{fits_in, sealed_as, reply_in}
use Rattle.seal.proofs.Room.{fits_in_lem}
use Rattle.table.specs.Entries.{desks}
use Rattle.rules.specs.Control.{known}
use Rattle.rules.specs.Command.{Result, answered}
use Rattle.rules.proofs.Replies.{obey-carried}
use Rattle.store.specs.Sound.{sound}
use Rattle.keeping.specs.Kept.{kept}
use Rattle.keeping.proofs.Rows.{kept-legal}
use Rattle.effects.specs.declared.Reply.{Reply as DeskReply}
use Rattle.records.specs.Obeyed.{Obeyed}
use Rattle.rules.specs.Box.{request, served}
use Rattle.replying.specs.Replied.{Replied}

module _ (k : Kind) (adr ctl status : ℕ) (sent out out' : List ℕ) (room : reply_room ≤ length out) (small : overhead Reply k + length sent ≤ (shape_of k).longest)
    (there : out' ≡ put (data_at Reply k) sent out) where
  size : length out' ≡ length out
  size = ap length there ∙ put-length (data_at Reply k) sent out

  fits : fits_in Reply k (length sent) (length out') ≡ true
  fits = fits_in_lem Reply k (length sent) (length out') small (omega (arith, size, longest-fits k))

  pub reply-size : sealed_as Reply k (length sent) out' ≡ Some (length (frame_of k adr ctl (status ∷ sent)))
  unfolding sealed_as
  reply-size = rw (fits, length-frame k adr ctl (status ∷ sent)) (ap Some (omega arith))

  pub reply-octets : reply_in k adr ctl status (length sent) out' ≡ put 0 (frame_of k adr ctl (status ∷ sent)) out
  unfolding reply_in
  reply-octets =
      let at : ℕ = data_at Reply k in
      let body : part at (length sent) out' ≡ sent = ap (part at (length sent)) there ∙ part-put-same at sent out (omega (arith, longest-fits k)) in
      rw (fits, body)
      (ap (put 0 (frame_of k adr ctl (status ∷ sent))) there
      ∙ put-over at sent 0 (frame_of k adr ctl (status ∷ sent)) out (omega arith) (omega (arith, length-frame k adr ctl (status ∷ sent))))

-- what the desk's command left, sealed
module _ (f s s' out out' body : List ℕ) (p : Frame) (r : DeskReply) (q : sound s ≡ true) (is : judged Request f ≡ found p) (room : reply_room ≤ length out)
    (low : p.address < desks) (same : body ≡ data_of p f)
    (y : Obeyed p.address p.kind (answered p.kind (kept p.address s) p.control body) r s s' out out') where
  abbrev res : Result
  res = answered p.kind (kept p.address s) p.control body

  abbrev framed : List ℕ
  framed = frame_of p.kind p.address p.control (res.status ∷ res.sent)

  small : overhead Reply p.kind + length res.sent ≤ (shape_of p.kind).longest
  unfolding answered
  small = (obey-carried (known p.control) p.kind (kept p.address s) body (kept-legal s q p.address low)).small

  whole : sealed_as Reply p.kind r.len out' ≡ Some (length framed)
  whole = rw y.told.len_is (reply-size p.kind p.address p.control res.status res.sent out out' room small y.told.out-is)

  pub never-not : sealed_as Reply p.kind r.len out' ≡ None → ⊥
  never-not e = let z : ◌≡◌ {A = ℕ} 0 1 = cc whole in omega arith

  pub replied : (n : ℕ) (out'' : List ℕ) → sealed_as Reply p.kind r.len out' ≡ Some n
      → out'' ≡ reply_in p.kind p.address p.control r.status r.len out' → Replied f s out n s' out''
  unfolding served request
  replied n out'' e o =
      let size : n ≡ length framed = cc whole in
      let made : out'' ≡ put 0 framed out =
      o ∙ rw (y.told.len_is, y.told.status-is) (reply-octets p.kind p.address p.control res.status res.sent out out' room small y.told.out-is) in
      record {
        sent = framed;
        sent_is = rw (← sound-parts Request f p is, ← same);
        count-is = size;
        output-is = made;
        says = rw (← sound-parts Request f p is, ← same) y.says;
      }
