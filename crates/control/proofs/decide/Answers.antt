-- `control::decide` meets its contract: a command's control byte finds its terms, and what is no command's finds none. Assumes nothing.
use mathlib.Core.Path.{sym, ap, ◌∙◌}
use Rattle.rules.specs.declared.control.RowCommand.TheVariants.{Baud, Reset, ReadBlock, WriteBlock, SaveBlocks, RestoreBlocks, SetTimer, SendTimer, Login}
use Rattle.rules.specs.declared.control.TableCommand.TheVariants.{SystemReset, ReadRecords, SendTable, RemoveRecords, ClearRecords}
use Rattle.rules.specs.declared.control.Command.TheVariants.{OnRow, OnTable}
use Rattle.rules.specs.Control.{commands, known_in, known}
use Rattle.rules.proofs.Commands.{found}
use Rattle.rules.proofs.Controls.{unlisted}
use borrow.Author.Rules.{rules}
use Rattle.control.proofs.decide.Goals as goal

pub returns-in-34 : goal.returns-in-34
unfolding known known_in commands
returns-in-34 c = c.listed.ensures ∙ sym (found (OnTable ReadRecords) _ c.in-34.is)

pub returns-in-49 : goal.returns-in-49
unfolding known known_in commands
returns-in-49 c = c.listed-in-49.ensures ∙ sym (found (OnTable SendTable) _ c.in-49.is)

pub returns-in-50 : goal.returns-in-50
unfolding known known_in commands
returns-in-50 c = c.listed-in-50.ensures ∙ sym (found (OnTable RemoveRecords) _ c.in-50.is)

pub returns-in-51 : goal.returns-in-51
unfolding known known_in commands
returns-in-51 c = c.listed-in-51.ensures ∙ sym (found (OnTable ClearRecords) _ c.in-51.is)

pub returns-in-82 : goal.returns-in-82
unfolding known known_in commands
returns-in-82 c = c.listed-in-82.ensures ∙ sym (found (OnRow Baud) _ c.in-82.is)

pub returns-in-99 : goal.returns-in-99
unfolding known known_in commands
returns-in-99 c = c.listed-in-99.ensures ∙ sym (found (OnRow Reset) _ c.in-99.is)

pub returns-in-100 : goal.returns-in-100
unfolding known known_in commands
returns-in-100 c = c.listed-in-100.ensures ∙ sym (found (OnTable SystemReset) _ c.in-100.is)

pub returns-in-128 : goal.returns-in-128
unfolding known known_in commands
returns-in-128 c = c.listed-in-128.ensures ∙ sym (found (OnRow ReadBlock) _ c.in-128.is)

pub returns-in-129 : goal.returns-in-129
unfolding known known_in commands
returns-in-129 c = c.listed-in-129.ensures ∙ sym (found (OnRow WriteBlock) _ c.in-129.is)

pub returns-in-130 : goal.returns-in-130
unfolding known known_in commands
returns-in-130 c = c.listed-in-130.ensures ∙ sym (found (OnRow SaveBlocks) _ c.in-130.is)

pub returns-in-131 : goal.returns-in-131
unfolding known known_in commands
returns-in-131 c = c.listed-in-131.ensures ∙ sym (found (OnRow RestoreBlocks) _ c.in-131.is)

pub returns-in-132 : goal.returns-in-132
unfolding known known_in commands
returns-in-132 c = sym (ap known c.in-132.is)

pub returns-in-133 : goal.returns-in-133
unfolding known known_in commands
returns-in-133 c = c.listed-in-133.ensures ∙ sym (found (OnRow SetTimer) _ c.in-133.is)

pub returns-in-134 : goal.returns-in-134
unfolding known known_in commands
returns-in-134 c = c.listed-in-134.ensures ∙ sym (found (OnRow SendTimer) _ c.in-134.is)

pub returns-in-160 : goal.returns-in-160
unfolding known known_in commands
returns-in-160 c = c.listed-in-160.ensures ∙ sym (found (OnRow Login) _ c.in-160.is)

pub returns-in-0-to-33 : goal.returns-in-0-to-33
unfolding known known_in commands
returns-in-0-to-33 c = sym (unlisted c.args.control (search rules depth 40))

pub returns-in-35-to-48 : goal.returns-in-35-to-48
unfolding known known_in commands
returns-in-35-to-48 c = sym (unlisted c.args.control (search rules depth 40))

pub returns-in-52-to-81 : goal.returns-in-52-to-81
unfolding known known_in commands
returns-in-52-to-81 c = sym (unlisted c.args.control (search rules depth 40))

pub returns-in-83-to-98 : goal.returns-in-83-to-98
unfolding known known_in commands
returns-in-83-to-98 c = sym (unlisted c.args.control (search rules depth 40))

pub returns-in-101-to-127 : goal.returns-in-101-to-127
unfolding known known_in commands
returns-in-101-to-127 c = sym (unlisted c.args.control (search rules depth 40))

pub returns-in-135-to-159 : goal.returns-in-135-to-159
unfolding known known_in commands
returns-in-135-to-159 c = sym (unlisted c.args.control (search rules depth 40))

pub returns-in-161-to-255 : goal.returns-in-161-to-255
unfolding known known_in commands
returns-in-161-to-255 c = sym (unlisted c.args.control (search rules depth 40))
