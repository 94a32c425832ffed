-- A request: what is asked of a desk, as the octets of a frame, and whether its values are in range. Assumes nothing.
use Rattle.std.specs.Prelude.{ℕ, ◌^◌, Bool, true, not, ◌&&◌, List, [], ◌∷◌, eqb, ltb}
use Rattle.octets.specs.Numbers.{octets}
use Rattle.frame.specs.Sealed.{frame_of}
use Rattle.rules.specs.declared.control.RowCommand.TheVariants as row
use Rattle.rules.specs.declared.control.TableCommand.TheVariants as table
use Rattle.rules.specs.declared.control.Command.{Command}
use Rattle.rules.specs.declared.control.Command.TheVariants.{OnRow, OnTable}
use Rattle.rules.specs.Control.{terms_of}
use Rattle.rules.specs.Desk.{Desk, fresh_desk, with_login}
use Rattle.rules.specs.Command.{answered}
use Rattle.requests.specs.declared.Ask.{Ask}
use Rattle.requests.specs.declared.Ask.TheVariants.{Baud, Reset, SystemReset, ReadBlock, WriteBlock, SaveBlocks, RestoreBlocks, SetTimer, SendTimer, Login, ReadRecords, SendTable, RemoveRecords, ClearRecords}
use Rattle.requests.specs.declared.Request.{Request}

-- the command that is asked
abbrev pub command_of : Ask → Command
command_of (Baud n) = OnRow row.Baud
command_of Reset = OnRow row.Reset
command_of SystemReset = OnTable table.SystemReset
command_of (ReadBlock adr) = OnRow row.ReadBlock
command_of (WriteBlock adr) = OnRow row.WriteBlock
command_of (SaveBlocks adr) = OnRow row.SaveBlocks
command_of (RestoreBlocks adr) = OnRow row.RestoreBlocks
command_of (SetTimer h min ms) = OnRow row.SetTimer
command_of SendTimer = OnRow row.SendTimer
command_of (Login password) = OnRow row.Login
command_of (ReadRecords k) = OnTable table.ReadRecords
command_of SendTable = OnTable table.SendTable
command_of RemoveRecords = OnTable table.RemoveRecords
command_of ClearRecords = OnTable table.ClearRecords

-- by the command table: its control byte, and whether it is marked L
abbrev pub control_of : Ask → ℕ
control_of a = (terms_of (command_of a)).control

abbrev pub needs_login : Ask → Bool
needs_login a = (terms_of (command_of a)).login

-- the data: CFG-ADR, fourteen bytes behind it in a write; h, min and ms; the password; k. Numbers MSB first
abbrev pub body_of : Ask → List ℕ → List ℕ
body_of (Baud n) bytes = n ∷ []
body_of Reset bytes = []
body_of SystemReset bytes = []
body_of (ReadBlock adr) bytes = adr ∷ []
body_of (WriteBlock adr) bytes = adr ∷ bytes
body_of (SaveBlocks adr) bytes = adr ∷ []
body_of (RestoreBlocks adr) bytes = adr ∷ []
body_of (SetTimer h min ms) bytes = h ∷ min ∷ octets 2 ms
body_of SendTimer bytes = []
body_of (Login password) bytes = octets 4 password
body_of (ReadRecords k) bytes = octets 2 k
body_of SendTable bytes = []
body_of RemoveRecords bytes = []
body_of ClearRecords bytes = []

-- its field can hold each value: one octet, two for ms and k, four for a password
abbrev pub fields_hold : Ask → Bool
fields_hold (Baud n) = ltb n 256
fields_hold Reset = true
fields_hold SystemReset = true
fields_hold (ReadBlock adr) = ltb adr 256
fields_hold (WriteBlock adr) = ltb adr 256
fields_hold (SaveBlocks adr) = ltb adr 256
fields_hold (RestoreBlocks adr) = ltb adr 256
fields_hold (SetTimer h min ms) = ltb h 256 && ltb min 256 && ltb ms 65536
fields_hold SendTimer = true
fields_hold (Login password) = ltb password (2 ^ 32)
fields_hold (ReadRecords k) = ltb k 65536
fields_hold SendTable = true
fields_hold RemoveRecords = true
fields_hold ClearRecords = true

-- the octets of the data
abbrev pub data_for : Request → List ℕ
data_for q = body_of q.ask q.bytes

-- the frame that carries the request
unfoldable pub request_frame : Request → List ℕ
request_frame q = frame_of q.kind q.desk (control_of q.ask) (data_for q)

-- a desk where someone is logged in
unfoldable pub open_desk : Desk
open_desk = with_login true fresh_desk

-- a logged-in desk would answer 0x11
unfoldable pub denied : Request → Bool
denied q = eqb (answered q.kind open_desk (control_of q.ask) (data_for q)).status 0x11

unfoldable pub in_range : Request → Bool
in_range q = fields_hold q.ask && not (denied q)
