-- Two different requests never give the same octets. Assumes nothing.
use Rattle.std.specs.Prelude.{Some, None}
use Prim.Native.Nat.{ℕ}
use mathlib.Core.Path.{◌≡◌, refl, sym, ap, ◌∙◌}
use mathlib.Core.Bool.{true, ◌&&◌}
use mathlib.Core.List.{List}
use lib.ListN.{get_or}
use lib.Dec.{ltb}
use Rattle.octets.specs.Numbers.{number, octets, u16_at}
use Rattle.octets.specs.Parts.{part}
use Rattle.octets.proofs.Numbers.{number-octets}
use Rattle.octets.proofs.Tests.{and_right}
use borrow.Author.Tests.{ltb-true}
use Rattle.frame.proofs.Injective.{frame-injective}
use Rattle.rules.specs.declared.control.Command.{Command}
use Rattle.rules.specs.declared.control.Command.TheVariants.{OnRow, OnTable}
use Rattle.rules.specs.declared.control.RowCommand.TheVariants as row
use Rattle.rules.specs.declared.control.TableCommand.TheVariants as table
use Rattle.rules.specs.Control.{Known, known}
use Rattle.rules.proofs.Commands.{control-finds}
use Rattle.requests.specs.declared.Ask.{Ask}
use Rattle.requests.specs.declared.Ask.TheVariants.{Baud, Reset, SystemReset, ReadBlock, WriteBlock, SaveBlocks, RestoreBlocks, SetTimer, SendTimer, Login, ReadRecords, SendTable, RemoveRecords, ClearRecords}
use Rattle.requests.specs.declared.Request.{Request}
use Rattle.requests.specs.Request.{command_of, control_of, body_of, fields_hold, data_for, request_frame}

-- what the data of a command ask
abbrev ask_from : Command → List ℕ → Ask
ask_from (OnRow row.Baud) body = Baud (get_or body 0 0)
ask_from (OnRow row.Reset) body = Reset
ask_from (OnTable table.SystemReset) body = SystemReset
ask_from (OnRow row.ReadBlock) body = ReadBlock (get_or body 0 0)
ask_from (OnRow row.WriteBlock) body = WriteBlock (get_or body 0 0)
ask_from (OnRow row.SaveBlocks) body = SaveBlocks (get_or body 0 0)
ask_from (OnRow row.RestoreBlocks) body = RestoreBlocks (get_or body 0 0)
ask_from (OnRow row.SetTimer) body = SetTimer (get_or body 0 0) (get_or body 1 0) (u16_at 2 body)
ask_from (OnRow row.SendTimer) body = SendTimer
ask_from (OnRow row.Login) body = Login (number body)
ask_from (OnTable table.ReadRecords) body = ReadRecords (number body)
ask_from (OnTable table.SendTable) body = SendTable
ask_from (OnTable table.RemoveRecords) body = RemoveRecords
ask_from (OnTable table.ClearRecords) body = ClearRecords

ask-back : (a : Ask) (bytes : List ℕ) → fields_hold a ≡ true → ask_from (command_of a) (body_of a bytes) ≡ a
unfolding u16_at part octets
ask-back (Baud n) bytes e = refl
ask-back Reset bytes e = refl
ask-back SystemReset bytes e = refl
ask-back (ReadBlock adr) bytes e = refl
ask-back (WriteBlock adr) bytes e = refl
ask-back (SaveBlocks adr) bytes e = refl
ask-back (RestoreBlocks adr) bytes e = refl
ask-back (SetTimer h m ms) bytes e = ap (SetTimer h m) (number-octets 2 ms (ltb-true _ _ (and_right (ltb h 256 && ltb m 256) (ltb ms 65536) e)))
ask-back SendTimer bytes e = refl
ask-back (Login password) bytes e = ap Login (number-octets 4 password (ltb-true _ _ e))
ask-back (ReadRecords k) bytes e = ap ReadRecords (number-octets 2 k (ltb-true _ _ e))
ask-back SendTable bytes e = refl
ask-back RemoveRecords bytes e = refl
ask-back ClearRecords bytes e = refl

-- the command of a known control byte
command_in : Known → Command
command_in (Some t) = t.command
command_in None = OnRow row.Reset

same-command : (a b : Ask) → control_of a ≡ control_of b → command_of a ≡ command_of b
unfolding command_in
same-command a b e = ap command_in (sym (control-finds (command_of a)) ∙ ap known e ∙ control-finds (command_of b))

-- the fourteen bytes stand in the data of a write; beside other requests they say nothing
pub same-request : (q p : Request) → fields_hold q.ask ≡ true → fields_hold p.ask ≡ true → request_frame q ≡ request_frame p
    → (q.kind ≡ p.kind) × (q.desk ≡ p.desk) × (q.ask ≡ p.ask) × (data_for q ≡ data_for p)
unfolding request_frame
same-request q p f g e =
    let same = frame-injective q.kind p.kind q.desk p.desk (control_of q.ask) (control_of p.ask) (data_for q) (data_for p) e in
    let asks : q.ask ≡ p.ask =
    sym (ask-back q.ask q.bytes f)
    ∙ ap (λ (c : Command). ask_from c (data_for q)) (same-command q.ask p.ask same.2)
    ∙ ap (ask_from (command_of p.ask)) same.3
    ∙ ask-back p.ask p.bytes g in
    (same.0, same.1, asks, same.3)
