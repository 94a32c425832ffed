-- The status and data length that a box can answer to a request. Assumes nothing.
use Rattle.std.specs.Prelude.{ℕ, ◌+◌, ◌*◌, min, Bool, cond, not, ◌&&◌, ◌||◌, eqb, ltb, leb}
use Rattle.frame.specs.declared.Kind.{Kind}
use Rattle.table.specs.Entries.{record_width, share}
use Rattle.rules.specs.Config.{block_of, block_size, password_in_ram}
use Rattle.rules.specs.Records.{most_sent, records_for}
use Rattle.rules.specs.Box.{no_desk}
use Rattle.requests.specs.declared.Ask.{Ask}
use Rattle.requests.specs.declared.Ask.TheVariants.{Baud, Reset, SystemReset, ReadBlock, WriteBlock, SaveBlocks, RestoreBlocks, SetTimer, SendTimer, Login, ReadRecords, SendTable, RemoveRecords, ClearRecords}
use Rattle.requests.specs.declared.Request.{Request}
use Rattle.requests.specs.Request.{fields_hold, needs_login, denied}

-- this status, with so many octets of data
unfoldable pub pair : ℕ → ℕ → ℕ → ℕ → Bool
pair wanted size status len = eqb status wanted && eqb len size

-- this status, without data
unfoldable pub plain : ℕ → ℕ → ℕ → Bool
plain wanted status len = pair wanted 0 status len

-- ---- 0x22

-- the status that n records come with, where k and those held allow `wanted`, and `fit` of them fit: 0x93 with 64 held and so as many as can go;
-- 0x94 with fewer than wanted
unfoldable pub status_may : ℕ → ℕ → ℕ → ℕ → Bool
status_may wanted fit n status = eqb status 0x00 || (eqb status 0x93 && eqb n (min wanted fit)) || (eqb status 0x94 && eqb n fit && ltb n wanted)

-- from 1 record up to the least of k, 64 and what fits
unfoldable pub records_may : Kind → ℕ → ℕ → ℕ → Bool
records_may kind k status len =
    let n = records_for len in
    eqb len (2 + n * record_width) && ltb 0 n && leb n (min k share) && leb n (most_sent kind) && status_may (min k share) (most_sent kind) n status

-- ---- what a logged-in desk can answer, where it does not answer 0x11

abbrev pub allowed : Kind → Ask → ℕ → ℕ → Bool
allowed kind (Baud n) status len = plain 0x00 status len
allowed kind Reset status len = plain 0x00 status len
allowed kind SystemReset status len = plain 0x00 status len
allowed kind (ReadBlock adr) status len = cond (eqb (block_of adr) 0) (plain 0x15 status len) (pair 0x00 block_size status len)
allowed kind (WriteBlock adr) status len = cond (password_in_ram adr) (plain 0x16 status len) (plain 0x00 status len)
allowed kind (SaveBlocks adr) status len = plain 0x00 status len
allowed kind (RestoreBlocks adr) status len = plain 0x00 status len
allowed kind (SetTimer h m ms) status len = plain 0x00 status len
allowed kind SendTimer status len = pair 0x00 4 status len
allowed kind (Login password) status len = plain 0x00 status len || plain 0x14 status len
allowed kind (ReadRecords k) status len = plain 0x92 status len || records_may kind k status len
allowed kind SendTable status len = pair 0x00 6 status len
allowed kind RemoveRecords status len = plain 0x00 status len
allowed kind ClearRecords status len = plain 0x00 status len

-- ---- 0x13 where login is needed; then 0x11, or what is allowed

unfoldable pub may_answer : Request → ℕ → ℕ → Bool
may_answer q status len =
    (needs_login q.ask && plain 0x13 status len) || cond (denied q) (plain 0x11 status len) (allowed q.kind q.ask status len)

-- a desk above 7, or a value that its field can't hold, is a request that no box answers
unfoldable pub possible : Request → ℕ → ℕ → Bool
possible q status len = not (no_desk q.desk) && fields_hold q.ask && may_answer q status len
