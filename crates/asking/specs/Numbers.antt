-- How numbers and lent octets become what the calls take. Assumes nothing.
use Rattle.std.specs.Prelude.{ℕ, Bool, cond, not, ◌&&◌, ◌||◌, List, length, eqb, ltb, Some, None}
use Rattle.frame.specs.declared.Kind.{Kind}
use Rattle.frame.specs.declared.Kind.TheVariants.{Standard, Advanced}
use Rattle.rules.specs.declared.control.Command.{Command}
use Rattle.rules.specs.declared.control.Command.TheVariants.{OnRow, OnTable}
use Rattle.rules.specs.declared.control.RowCommand.{RowCommand}
use Rattle.rules.specs.declared.control.RowCommand.TheVariants.{Baud, Reset, ReadBlock, WriteBlock, SaveBlocks, RestoreBlocks, SetTimer, SendTimer, Login}
use Rattle.rules.specs.declared.control.TableCommand.{TableCommand}
use Rattle.rules.specs.declared.control.TableCommand.TheVariants.{SystemReset, ReadRecords, SendTable, RemoveRecords, ClearRecords}
use Rattle.rules.specs.Config.{block_size}
use Rattle.rules.specs.Control.{Known, known}
use Rattle.codes.specs.Codes.{octet_of}
use Rattle.requests.specs.declared.Ask.{Ask}
use Rattle.requests.specs.declared.Request.{Request}
use Rattle.typed.specs.Typed.{bytes_of}

-- 0 standard, 1 advanced
unfoldable pub kind_named : ℕ → Kind
kind_named kind = cond (eqb kind 0) Standard Advanced

-- what is no request is read as one whose value its field can't hold: the maker refuses it with 6, the reader with 8
abbrev pub no_ask : Ask
no_ask = Ask.Baud 256

-- what a command asks with three numbers: CFG-ADR, password or k is the first; hour, minute, milliseconds
abbrev pub row_ask : RowCommand → ℕ → ℕ → ℕ → Ask
row_ask Baud a b c = Ask.Baud a
row_ask Reset a b c = Ask.Reset
row_ask ReadBlock a b c = Ask.ReadBlock a
row_ask WriteBlock a b c = Ask.WriteBlock a
row_ask SaveBlocks a b c = Ask.SaveBlocks a
row_ask RestoreBlocks a b c = Ask.RestoreBlocks a
row_ask SetTimer a b c = Ask.SetTimer a b c
row_ask SendTimer a b c = Ask.SendTimer
row_ask Login a b c = Ask.Login a

abbrev pub table_ask : TableCommand → ℕ → Ask
table_ask SystemReset a = Ask.SystemReset
table_ask ReadRecords a = Ask.ReadRecords a
table_ask SendTable a = Ask.SendTable
table_ask RemoveRecords a = Ask.RemoveRecords
table_ask ClearRecords a = Ask.ClearRecords

abbrev pub ask_with : Command → ℕ → ℕ → ℕ → Ask
ask_with (OnRow x) a b c = row_ask x a b c
ask_with (OnTable x) a b c = table_ask x a

abbrev pub ask_of : Known → ℕ → ℕ → ℕ → Ask
ask_of (Some t) a b c = ask_with t.command a b c
ask_of None a b c = no_ask

-- a frame kind is named, and a write has the bytes of a block
unfoldable pub whole : ℕ → ℕ → List ℕ → Bool
whole kind control bytes = ltb kind 2 && (not (eqb control 0x81) || eqb (length bytes) block_size)

-- the request that the numbers name
unfoldable pub request_of : ℕ → ℕ → ℕ → ℕ → ℕ → ℕ → List ℕ → Request
request_of kind desk control a b c bytes =
    record {
      kind = kind_named kind;
      desk = desk;
      ask = cond (whole kind (octet_of control) bytes) (ask_of (known (octet_of control)) a b c) no_ask;
      bytes = bytes_of bytes;
    }
