-- The box reads what the maker made as exactly that request, and does what it says. Assumes nothing.
use Prim.Native.Nat.{ℕ, ◌+◌, ◌≤◌, ◌<◌}
use mathlib.Core.Path.{◌≡◌}
use mathlib.Core.List.{◌∷◌}
use native.Mathlib.Omega.{arith}
use lib.ListN.{length}
use lib.Dec.{lit≤}
use Rattle.frame.specs.declared.Kind.{Kind}
use Rattle.frame.specs.declared.Kind.TheVariants.{Standard, Advanced}
use Rattle.frame.specs.declared.Way.TheVariants.{Request}
use Rattle.frame.specs.declared.Frame.{Frame}
use Rattle.frame.specs.Shape.{shape_of, reply_room, overhead, frame_with}
use Rattle.frame.specs.Finding.{found}
use Rattle.frame.specs.Judged.{judged, data_of}
use Rattle.frame.specs.Sealed.{frame_of}
use Rattle.frame.proofs.ReadBack.{request-back, request-parts, request-data}
use Rattle.table.specs.Entries.{desks}
use Rattle.rules.specs.Config.{block_size}
use Rattle.rules.specs.Desk.{Desk}
use Rattle.rules.specs.Box.{Box, AtDesk, reply, frame, request, served, placed, desk_at, unless_refused, step}
use Rattle.rules.proofs.Refusals.{accepted}
use Rattle.requests.specs.declared.Ask.{Ask}
use Rattle.requests.specs.declared.Ask.TheVariants.{Baud, Reset, SystemReset, ReadBlock, WriteBlock, SaveBlocks, RestoreBlocks, SetTimer, SendTimer, Login, ReadRecords, SendTable, RemoveRecords, ClearRecords}
use Rattle.requests.specs.declared.Request.{Request as Asked}
use Rattle.requests.specs.Request.{control_of, data_for, request_frame}
use Rattle.requests.proofs.Asked.{size_of, body-size, answer_to}

-- no command lists more data than a write
few : (a : Ask) → size_of a ≤ 1 + block_size
few (Baud n) = lit≤ tt
few Reset = lit≤ tt
few SystemReset = lit≤ tt
few (ReadBlock adr) = lit≤ tt
few (WriteBlock adr) = lit≤ tt
few (SaveBlocks adr) = lit≤ tt
few (RestoreBlocks adr) = lit≤ tt
few (SetTimer h m ms) = lit≤ tt
few SendTimer = lit≤ tt
few (Login password) = lit≤ tt
few (ReadRecords k) = lit≤ tt
few SendTable = lit≤ tt
few RemoveRecords = lit≤ tt
few ClearRecords = lit≤ tt

few-fit : (k : Kind) (n : ℕ) → n ≤ 1 + block_size → overhead Request k + n ≤ (shape_of k).longest
few-fit Standard n h = omega arith
few-fit Advanced n h = omega arith

-- what the desk answers, and what is then kept for it
abbrev pub asked : Asked → Desk → AtDesk
asked q d =
    let r = answer_to q d in
    record { answer = reply (frame_of q.kind q.desk (control_of q.ask) (r.status ∷ r.sent)); desk = r.desk }

module _ (q : Asked) (size : length q.bytes ≡ block_size) where
  abbrev pub parts : Frame
  parts = frame_with Request q.kind q.desk (control_of q.ask) (length (data_for q))

  pub request-fits : overhead Request q.kind + length (data_for q) ≤ (shape_of q.kind).longest
  request-fits = few-fit q.kind (length (data_for q)) (omega (arith, body-size q.ask q.bytes size, few q.ask))

  -- exactly that kind, desk, control byte and data
  pub box-judges : judged Request (request_frame q) ≡ found parts
  unfolding request_frame
  box-judges = request-back q.kind q.desk (control_of q.ask) (data_for q) request-fits

  pub box-reads : request (request_frame q) ≡ parts
  unfolding request_frame request
  box-reads = request-parts q.kind q.desk (control_of q.ask) (data_for q)

  pub box-data : data_of (request (request_frame q)) (request_frame q) ≡ data_for q
  unfolding request_frame request
  box-data = request-data q.kind q.desk (control_of q.ask) (data_for q)

  pub box-serves : (d : Desk) → served (request_frame q) d ≡ asked q d
  unfolding served
  box-serves d = rw (box-data, box-reads)

  -- so the step does what the request says
  pub box-steps : (box : Box) (room : ℕ) → q.desk < desks → reply_room ≤ room → step box (frame (request_frame q) room) ≡ placed box q.desk (asked q (desk_at box q.desk))
  unfolding step unless_refused
  box-steps box room low enough = rw (accepted (request_frame q) room enough parts box-judges low, box-reads, box-serves (desk_at box q.desk))
