-- `commands::act` meets its contract: each arm is what its command promises. Assumes nothing.
use borrow.Author.Rules.{rules}
use Rattle.rules.specs.Command.{row_effect}
use Rattle.rows.proofs.Changes.{change-none}
use Rattle.commands.proofs.Answers.{allowed-as, quiet-as, obeyed-as}
use Rattle.effects.proofs.Answers.{done-quiet}
use Rattle.commands.proofs.act.Goals as goal

pub returns-in-Baud : goal.returns-in-Baud
unfolding row_effect
returns-in-Baud c =
    quiet-as _ c.in-Baud.is (done-quiet (change-none _ c.requires.0) c.plain.ensures)

pub returns-in-Reset : goal.returns-in-Reset
unfolding row_effect
returns-in-Reset c =
    quiet-as _ c.in-Reset.is c.reset.ensures

pub returns-in-SendTimer : goal.returns-in-SendTimer
unfolding row_effect
returns-in-SendTimer c =
    obeyed-as _ c.in-SendTimer.is c.send_timer.ensures

pub read-requires : goal.read-requires
read-requires c = search (rules, allowed-as)

pub write-requires : goal.write-requires
write-requires c = search (rules, allowed-as)

pub save-requires : goal.save-requires
save-requires c = search (rules, allowed-as)

pub restore-requires : goal.restore-requires
restore-requires c = search (rules, allowed-as)

pub set_timer-requires : goal.set_timer-requires
set_timer-requires c = search (rules, allowed-as)

pub login-requires : goal.login-requires
login-requires c = search (rules, allowed-as)

pub returns-in-ReadBlock : goal.returns-in-ReadBlock
returns-in-ReadBlock c = search obeyed-as

pub returns-in-WriteBlock : goal.returns-in-WriteBlock
returns-in-WriteBlock c = search quiet-as

pub returns-in-SaveBlocks : goal.returns-in-SaveBlocks
returns-in-SaveBlocks c = search quiet-as

pub returns-in-RestoreBlocks : goal.returns-in-RestoreBlocks
returns-in-RestoreBlocks c = search quiet-as

pub returns-in-SetTimer : goal.returns-in-SetTimer
returns-in-SetTimer c = search quiet-as

pub returns-in-Login : goal.returns-in-Login
returns-in-Login c = search quiet-as
