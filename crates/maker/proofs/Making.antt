-- What the maker refuses, and what it has made: the data at their place, and the frame around them. Assumes nothing.
use Rattle.std.specs.Prelude.{Option, Some, Result, Ok, Err}
use Rattle.std.specs.Option.{ok_or}
use Prim.Native.Nat.{ℕ, ◌+◌, ◌-◌, ◌≤◌, ◌<◌}
use mathlib.Core.Path.{◌≡◌, refl, sym, ap, ◌∙◌}
use mathlib.Core.Bool.{true, false}
use mathlib.Core.List.{List, ◌++◌}
use native.Mathlib.Nat.{add-zero}
use native.Mathlib.Omega.{arith}
use lib.ListN.{length, take, drop}
use borrow.Author.Tests.{lt-ltb, le-ltb, le-leb, lt-leb, leb-false}
use Rattle.octets.specs.Tests.{first}
use Rattle.octets.specs.Parts.{part, put}
use Rattle.octets.proofs.Lent.{put-lent}
use Rattle.octets.proofs.Puts.{put-length, part-put-same, put-over}
use Rattle.frame.specs.declared.Kind.{Kind}
use Rattle.frame.specs.declared.Way.TheVariants.{Request}
use Rattle.frame.specs.declared.Refusal.{Refusal}
use Rattle.frame.specs.declared.Refusal.TheVariants.{NoDesk, OutOfRange, NoRoom}
use Rattle.frame.specs.Shape.{overhead, data_at}
use Rattle.frame.proofs.Numbers.{refuses}
use Rattle.frame.specs.Sealed.{frame_of}
use Rattle.frame.proofs.Lengths.{length-frame}
use Rattle.seal.specs.Buffer.{fits_in, sealed_as, request_in}
use Rattle.seal.proofs.Room.{by-room, within}
use Rattle.table.specs.Entries.{desks}
use Rattle.rules.specs.declared.control.Terms.{Terms}
use Rattle.rules.specs.Config.{block_size}
use Rattle.rules.specs.Control.{terms_of}
use Rattle.requests.specs.declared.Request.{Request as Asked}
use Rattle.requests.specs.Request.{command_of, control_of, data_for, request_frame, in_range}
use Rattle.maker.specs.Maker.{maker_refusals, Requested}
use Rattle.requests.proofs.Asked.{body-size}
use Rattle.requests.proofs.BoxReads.{request-fits}

-- ---- the length of the data

pub size-listed : (q : Asked) (t : Terms) → length q.bytes ≡ block_size → t ≡ terms_of (command_of q.ask) → t.size ≡ length (data_for q)
size-listed q t size e = ap (λ (x : Terms). x.size) e ∙ sym (body-size q.ask q.bytes size)

-- ---- refusals

pub frame-size : (q : Asked) → length (request_frame q) ≡ overhead Request q.kind + length (data_for q)
unfolding request_frame
frame-size q = length-frame q.kind q.desk (control_of q.ask) (data_for q)

-- a frame that does not fit is one that has no room: no request is too long
pub no_room : (q : Asked) (room : ℕ) → length q.bytes ≡ block_size → fits_in Request q.kind (length (data_for q)) room ≡ false → room < length (request_frame q)
no_room q room size e =
    let h : room < overhead Request q.kind + length (data_for q) = leb-false _ _ (by-room Request q.kind (length (data_for q)) room (request-fits q size) ∙ e) in
    omega (arith, frame-size q)

module _ (q : Asked) (out : List ℕ) where
  pub refused-desk : desks ≤ q.desk → Requested q out (Err NoDesk) out
  unfolding maker_refusals first
  refused-desk h = record { outcome = rw (le-leb desks q.desk h) (refuses Err NoDesk, refl) }

  module _ (low : q.desk < desks) where
    pub refused-range : in_range q ≡ false → Requested q out (Err OutOfRange) out
    unfolding maker_refusals first
    refused-range e = record { outcome = rw (lt-leb desks q.desk low, e) (refuses Err OutOfRange, refl) }

    module _ (range : in_range q ≡ true) where
      pub refused-room : length out < length (request_frame q) → Requested q out (Err NoRoom) out
      unfolding maker_refusals first
      refused-room h = record { outcome = rw (lt-leb desks q.desk low, range, lt-ltb _ _ h) (refuses Err NoRoom, refl) }

      pub made : (n : ℕ) (out' : List ℕ) → length (request_frame q) ≤ length out → n ≡ length (request_frame q) → out' ≡ put 0 (request_frame q) out → Requested q out (Ok n) out'
      unfolding maker_refusals first
      made n out' h e o = record { outcome = rw (lt-leb desks q.desk low, range, le-ltb _ _ h) (ap Ok e, o) }

-- ---- the frame around the data

module _ (k : Kind) (adr ctl : ℕ) (body out out' : List ℕ) (fits : fits_in Request k (length body) (length out) ≡ true)
    (there : out' ≡ put (data_at Request k) body out) where
  fits' : fits_in Request k (length body) (length out') ≡ true
  fits' = ap (λ (n : ℕ). fits_in Request k (length body) n) (ap length there ∙ put-length (data_at Request k) body out) ∙ fits

  pub request-size : sealed_as Request k (length body) out' ≡ Some (length (frame_of k adr ctl body))
  unfolding sealed_as
  request-size = rw (fits', length-frame k adr ctl body)

  pub request-octets : request_in k adr ctl (length body) out' ≡ put 0 (frame_of k adr ctl body) out
  unfolding request_in
  request-octets =
      let at : ℕ = data_at Request k in
      let inside = (within Request k (length body) (length out) fits).1 in
      let here : part at (length body) out' ≡ body = ap (part at (length body)) there ∙ part-put-same at body out (omega arith) in
      rw (fits', here)
      (ap (put 0 (frame_of k adr ctl body)) there
      ∙ put-over at body 0 (frame_of k adr ctl body) out (omega arith) (omega (arith, length-frame k adr ctl body)))

-- the data were written into the rest of the output that was lent, and the frame sealed around them
module _ (q : Asked) (out ys : List ℕ) (at len ctl : ℕ) (low : q.desk < desks) (range : in_range q ≡ true) (is : len ≡ length (data_for q))
    (fits : fits_in Request q.kind len (length out) ≡ true) (there : at ≡ data_at Request q.kind) (asks : ctl ≡ control_of q.ask)
    (lent : ys ≡ put 0 (data_for q) (take (length out - at) (drop at out))) where
  abbrev written_out : List ℕ
  written_out = take at out ++ (ys ++ drop (length out - at) (drop at out))

  roomy : fits_in Request q.kind (length (data_for q)) (length out) ≡ true
  roomy = ap (λ (n : ℕ). fits_in Request q.kind n (length out)) (sym is) ∙ fits

  inside : overhead Request q.kind + length (data_for q) ≤ length out
  inside = (within Request q.kind (length (data_for q)) (length out) roomy).1

  put-there : written_out ≡ put (data_at Request q.kind) (data_for q) out
  put-there =
      put-lent at (length out - at) 0 (data_for q) ys out lent (omega (arith, inside)) (omega (arith, inside))
      ∙ ap (λ (i : ℕ). put i (data_for q) out) (add-zero at ∙ there)

  -- it has room, so that no refusal stands for None
  pub framed : (o : Option ℕ) (a : Result ℕ Refusal) (out'' : List ℕ) → o ≡ sealed_as Request q.kind len written_out → a ≡ ok_or o NoRoom
      → out'' ≡ request_in q.kind q.desk ctl len written_out → Requested q out a out''
  unfolding request_frame
  framed o a out'' s e x =
      let size = request-size q.kind q.desk (control_of q.ask) (data_for q) out written_out roomy put-there in
      let same : o ≡ Some (length (request_frame q)) = s ∙ ap (λ (k : ℕ). sealed_as Request q.kind k written_out) is ∙ size in
      let o_is : out'' ≡ put 0 (request_frame q) out =
      x ∙ rw (is, asks) (request-octets q.kind q.desk (control_of q.ask) (data_for q) out written_out roomy put-there) in
      rw (e, same) (made q out low range (length (request_frame q)) out'' (omega (arith, inside, frame-size q)) refl o_is)

-- how much room there is for the data
pub data-room : (k : Kind) (len room at : ℕ) → fits_in Request k len room ≡ true → at ≡ data_at Request k → at + len + 2 ≤ room
data-room k len room at e h = omega (arith, (within Request k len room e).1)
