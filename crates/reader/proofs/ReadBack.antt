-- What a legal desk replies is read back as the status and the data that were sent. Assumes nothing.
use Prim.Native.Nat.{ℕ, ◌+◌, ◌*◌, ◌≤◌, ◌<◌}
use mathlib.Core.Path.{◌≡◌, refl, sym, ap, ◌∙◌}
use mathlib.Core.Bool.{true, not, ◌||◌, or-true}
use mathlib.Core.List.{List, ◌∷◌}
use mathlib.Core.Option.{Option, none, some}
use native.Mathlib.Omega.{arith}
use lib.ListN.{length, take, length-take}
use lib.Dec.{eqb}
use borrow.Author.Tests.{eq-eqb}
use Rattle.rules.specs.Config.{block_size}
use Rattle.octets.specs.Parts.{part}
use Rattle.octets.specs.Numbers.{octets, u16_at}
use Rattle.octets.specs.Tests.{first}
use Rattle.octets.proofs.Tests.{first-none}
use Rattle.octets.proofs.Each.{all_take}
use Rattle.octets.proofs.Rows.{Wide}
use Rattle.frame.specs.declared.Kind.{Kind}
use Rattle.frame.specs.declared.Kind.TheVariants.{Standard, Advanced}
use Rattle.frame.specs.declared.Way.TheVariants.{Reply}
use Rattle.frame.specs.declared.Frame.{Frame}
use Rattle.frame.specs.Shape.{shape_of, overhead, frame_with}
use Rattle.frame.specs.Finding.{found}
use Rattle.frame.specs.Judged.{faults, parts_of, data_of}
use Rattle.frame.specs.Sealed.{frame_of}
use Rattle.frame.proofs.ReadBack.{reply-back, reply-parts, reply-data, status-back}
use Rattle.frame.proofs.Verdict.{sound-first}
use Rattle.table.specs.Entries.{record_width, desks}
use Rattle.rules.specs.declared.control.TableCommand.TheVariants as table
use Rattle.rules.specs.Desk.{Desk}
use Rattle.rules.specs.Control.{known}
use Rattle.rules.specs.Records.{goes, counted}
use Rattle.rules.specs.Command.{Result, result, table_effect, unless, answered}
use Rattle.rules.proofs.Facts.{RecordLegal, DeskLegal}
use Rattle.rules.proofs.Replies.{obey-carried}
use Rattle.rules.proofs.Counts.{legal-wide, counted-length, count-back}
use Rattle.requests.specs.declared.Ask.{Ask}
use Rattle.requests.specs.declared.Ask.TheVariants.{Baud, Reset, SystemReset, ReadBlock, WriteBlock, SaveBlocks, RestoreBlocks, SetTimer, SendTimer, Login, ReadRecords, SendTable, RemoveRecords, ClearRecords}
use Rattle.requests.specs.declared.Request.{Request}
use Rattle.requests.specs.Request.{control_of, data_for, fields_hold}
use Rattle.requests.proofs.Asked.{answer_to, asked-open}
use Rattle.possible.specs.Possible.{possible}
use Rattle.possible.proofs.Answers.{answer-possible}
use Rattle.reader.specs.Reader.{same_kind, told_of, count_right, answers_to, reader_refusals, read_as}

-- ---- the record count

-- that of the records
counted-right : (control : ℕ) (rs : List (List ℕ)) → Wide record_width rs → length rs < 65536 → count_right control (counted rs) ≡ true
unfolding count_right
counted-right control rs w h =
    rw (eq-eqb (length (counted rs)) (2 + u16_at 0 (counted rs) * record_width) (omega (arith, counted-length rs w, count-back rs h)))
    (or-true (not (eqb control 0x22) || eqb (length (counted rs)) 0))

-- no data, or what was to be sent
unless-right : (control : ℕ) (o : Option ℕ) (d : Desk) (r : Result) → count_right control r.sent ≡ true → count_right control (unless o d r).sent ≡ true
unfolding unless result count_right
unless-right control none d r e = e
unless-right control (some n) d r e = rw (or-true (not (eqb control 0x22)))

read_right : (kind : Kind) (body : List ℕ) (d : Desk) → DeskLegal d → count_right 0x22 (table_effect table.ReadRecords kind d body).sent ≡ true
unfolding table_effect result
read_right kind body d p =
    let n = goes kind (u16_at 0 body) d.table in
    let rs = take n d.table.held in
    counted-right 0x22 rs (legal-wide rs (all_take RecordLegal n d.table.held p.table.each)) (simp length-take (omega (arith, p.table.few)))

count-holds : (kind : Kind) (desk : ℕ) (bytes : List ℕ) (d : Desk) → length bytes ≡ block_size → DeskLegal d
    → (a : Ask) → count_right (control_of a) (answer_to (record { kind = kind; desk = desk; ask = a; bytes = bytes }) d).sent ≡ true
unfolding count_right
count-holds kind desk bytes d size p (Baud n) = refl
count-holds kind desk bytes d size p Reset = refl
count-holds kind desk bytes d size p SystemReset = refl
count-holds kind desk bytes d size p (ReadBlock adr) = refl
count-holds kind desk bytes d size p (WriteBlock adr) = refl
count-holds kind desk bytes d size p (SaveBlocks adr) = refl
count-holds kind desk bytes d size p (RestoreBlocks adr) = refl
count-holds kind desk bytes d size p (SetTimer h m ms) = refl
count-holds kind desk bytes d size p SendTimer = refl
count-holds kind desk bytes d size p (Login password) = refl
count-holds kind desk bytes d size p (ReadRecords k) =
    let q : Request = record { kind = kind; desk = desk; ask = ReadRecords k; bytes = bytes } in
    ap (λ (r : Result). count_right 0x22 r.sent) (asked-open q d size refl) ∙ unless-right 0x22 _ d _ (read_right kind (octets 2 k) d p)
count-holds kind desk bytes d size p SendTable = refl
count-holds kind desk bytes d size p RemoveRecords = refl
count-holds kind desk bytes d size p ClearRecords = refl

-- ---- the reply

same_kind_lem : (k : Kind) → same_kind k k ≡ true
same_kind_lem Standard = refl
same_kind_lem Advanced = refl

lead-three : (k : Kind) → (shape_of k).lead + 2 + 1 ≡ (shape_of k).lead + 3
lead-three Standard = refl
lead-three Advanced = refl

-- a reply of this status and these data
module _ (q : Request) (status : ℕ) (sent : List ℕ) where
  abbrev replied : List ℕ
  replied = frame_of q.kind q.desk (control_of q.ask) (status ∷ sent)

  replied-parts : parts_of Reply replied ≡ frame_with Reply q.kind q.desk (control_of q.ask) (length sent)
  replied-parts = reply-parts q.kind q.desk (control_of q.ask) status sent

  replied-told : told_of (parts_of Reply replied) replied ≡ record { status = status; start = (shape_of q.kind).lead + 3; len = length sent }
  unfolding told_of
  replied-told = rw (status-back q.kind q.desk (control_of q.ask) status sent, replied-parts, lead-three q.kind)

  replied-data : data_of (parts_of Reply replied) replied ≡ sent
  replied-data = reply-data q.kind q.desk (control_of q.ask) status sent

  data-there : part ((shape_of q.kind).lead + 3) (length sent) replied ≡ sent
  unfolding data_of
  data-there = ap (λ (n : ℕ). part n (length sent) replied) (sym (lead-three q.kind)) ∙ ap (λ (f : Frame). data_of f replied) (sym replied-parts) ∙ replied-data

  module _ (fits : overhead Reply q.kind + length sent ≤ (shape_of q.kind).longest) (may : possible q status (length sent) ≡ true)
      (count : count_right (control_of q.ask) sent ≡ true) where
    replied-answers : answers_to q (parts_of Reply replied) replied ≡ true
    unfolding answers_to
    replied-answers =
        rw (
          replied-data,
          replied-told,
          replied-parts,
          same_kind_lem q.kind,
          eq-eqb q.desk q.desk refl,
          eq-eqb (control_of q.ask) (control_of q.ask) refl,
          may,
        )
        count

    replied-read : read_as q replied ≡ found (record { status = status; start = (shape_of q.kind).lead + 3; len = length sent })
    unfolding read_as reader_refusals first
    replied-read =
        let judge = reply-back q.kind q.desk (control_of q.ask) status sent fits in
        rw (first-none (faults Reply replied) _ (sound-first Reply replied _ judge), replied-answers, replied-told)

pub reply-read : (q : Request) (d : Desk) → DeskLegal d → length q.bytes ≡ block_size → q.desk < desks → fields_hold q.ask ≡ true
    → let r = answer_to q d in let s = frame_of q.kind q.desk (control_of q.ask) (r.status ∷ r.sent) in
    (read_as q s ≡ found (record { status = r.status; start = (shape_of q.kind).lead + 3; len = length r.sent }))
    × (part ((shape_of q.kind).lead + 3) (length r.sent) s ≡ r.sent)
unfolding answered
reply-read q d p size low holds =
    let r = answer_to q d in
    let fits = (obey-carried (known (control_of q.ask)) q.kind d (data_for q) p).small in (
      replied-read q r.status r.sent fits (answer-possible q d p size low holds) (count-holds q.kind q.desk q.bytes d size p q.ask),
      data-there q r.status r.sent,
    )
