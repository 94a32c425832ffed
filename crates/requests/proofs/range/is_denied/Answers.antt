-- `requests::range::is_denied` meets its contract. Assumes nothing.
use Prim.Native.Nat.{ℕ}
use lib.Dec.{eqb}
use Rattle.timer.specs.Clock.{timer_legal}
use Rattle.requests.proofs.Values.{holds_as, times, two_back, timer-said}
use mathlib.Core.Path.{sym, ap, ◌∙◌}
use mathlib.Core.Bool.{not}
use borrow.Author.Tests.{ltb-true}
use Rattle.requests.proofs.Denied.{denied-as}
use borrow.Author.Rules.{rules}
use Rattle.requests.proofs.range.is_denied.Goals as goal

pub overflow_cast-adr : goal.overflow_cast-adr
overflow_cast-adr c = record { fits = ltb-true _ _ (holds_as _ _ c.requires c.in-ReadBlock.is) }

pub overflow_cast-adr-in-WriteBlock : goal.overflow_cast-adr-in-WriteBlock
overflow_cast-adr-in-WriteBlock c = record { fits = ltb-true _ _ (holds_as _ _ c.requires c.in-WriteBlock.is) }

pub overflow_cast-adr-in-SaveBlocks : goal.overflow_cast-adr-in-SaveBlocks
overflow_cast-adr-in-SaveBlocks c = record { fits = ltb-true _ _ (holds_as _ _ c.requires c.in-SaveBlocks.is) }

pub overflow_cast-adr-in-RestoreBlocks : goal.overflow_cast-adr-in-RestoreBlocks
overflow_cast-adr-in-RestoreBlocks c = record { fits = ltb-true _ _ (holds_as _ _ c.requires c.in-RestoreBlocks.is) }

pub overflow_cast-h : goal.overflow_cast-h
overflow_cast-h c = record { fits = (times _ _ _ _ c.requires c.in-SetTimer.is).hour }

pub overflow_cast-m : goal.overflow_cast-m
overflow_cast-m c = record { fits = (times _ _ _ _ c.requires c.in-SetTimer.is).minute }

pub overflow_cast-ms : goal.overflow_cast-ms
overflow_cast-ms c = record { fits = (times _ _ _ _ c.requires c.in-SetTimer.is).milli }

pub returns-in-Baud : goal.returns-in-Baud
returns-in-Baud c = denied-as _ _ (search rules) c.in-Baud.is

pub returns-in-Reset : goal.returns-in-Reset
returns-in-Reset c = denied-as _ _ (search rules) c.in-Reset.is

pub returns-in-SystemReset : goal.returns-in-SystemReset
returns-in-SystemReset c = denied-as _ _ (search rules) c.in-SystemReset.is

pub returns-in-ReadBlock : goal.returns-in-ReadBlock
returns-in-ReadBlock c = ap not c.names_one.ensures ∙ denied-as _ _ (search rules) c.in-ReadBlock.is

pub returns-in-WriteBlock : goal.returns-in-WriteBlock
returns-in-WriteBlock c = c.write_denied.ensures ∙ denied-as _ _ (search rules) c.in-WriteBlock.is

pub returns-in-SaveBlocks : goal.returns-in-SaveBlocks
returns-in-SaveBlocks c = c.save_denied.ensures ∙ denied-as _ _ (search rules) c.in-SaveBlocks.is

pub returns-in-RestoreBlocks : goal.returns-in-RestoreBlocks
returns-in-RestoreBlocks c = ap not c.names_some.ensures ∙ denied-as _ _ (search rules) c.in-RestoreBlocks.is

pub returns-in-SetTimer : goal.returns-in-SetTimer
returns-in-SetTimer c =
    let t = times _ _ _ _ c.requires c.in-SetTimer.is in
    ap not (c.legal.ensures ∙ ap timer_legal (sym (timer-said _ _ _ t.milli))) ∙ denied-as _ _ (search rules) c.in-SetTimer.is

pub returns-in-SendTimer : goal.returns-in-SendTimer
returns-in-SendTimer c = denied-as _ _ (search rules) c.in-SendTimer.is

pub returns-in-Login : goal.returns-in-Login
returns-in-Login c = denied-as _ _ (search rules) c.in-Login.is

pub returns-in-ReadRecords : goal.returns-in-ReadRecords
returns-in-ReadRecords c =
    let h = holds_as _ _ c.requires c.in-ReadRecords.is in
    ap (λ (n : ℕ). eqb n 0) (sym (two_back _ (ltb-true _ _ h))) ∙ denied-as _ _ (search rules) c.in-ReadRecords.is

pub returns-in-SendTable : goal.returns-in-SendTable
returns-in-SendTable c = denied-as _ _ (search rules) c.in-SendTable.is

pub returns-in-RemoveRecords : goal.returns-in-RemoveRecords
returns-in-RemoveRecords c = denied-as _ _ (search rules) c.in-RemoveRecords.is

pub returns-in-ClearRecords : goal.returns-in-ClearRecords
returns-in-ClearRecords c = denied-as _ _ (search rules) c.in-ClearRecords.is
