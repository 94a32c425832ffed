-- What a command leaves: the answer of the rules, its data in the output, a sound store that says the rules' desk. Assumes nothing.
use Rattle.std.specs.Prelude.{ℕ, min, cond, List, ltb, take}
use Rattle.octets.specs.Tests.{first}
use Rattle.frame.specs.declared.Kind.{Kind}
use Rattle.rules.specs.declared.control.Command.{Command}
use Rattle.rules.specs.declared.control.Command.TheVariants.{OnTable}
use Rattle.rules.specs.declared.control.TableCommand.{TableCommand}
use Rattle.rules.specs.Desk.{Desk}
use Rattle.rules.specs.Records.{most_sent, counted, sent_table}
use Rattle.rules.specs.Command.{Result, result, own_tests, effect, unless}
use Rattle.doings.specs.Doing.{on_table}
use Rattle.keeping.specs.Kept.{kept, Says}
use Rattle.effects.specs.declared.Reply.{Reply}
use Rattle.effects.specs.Obeyed.{Carries}

-- a command with its own rule
abbrev pub ruled : Command → Kind → Desk → List ℕ → Result
ruled c kind d body = unless (first (own_tests c kind d body)) d (effect c kind d body)

-- 0x22, where so many records are wanted and held: those that fit go, and are due to be removed
unfoldable pub sends : Kind → ℕ → Desk → Result
sends kind wanted d =
    let n = min wanted (most_sent kind) in
    result (cond d.table.overflow 0x93 (cond (ltb n wanted) 0x94 0x00)) (counted (take n d.table.held)) (on_table (sent_table n) d)

pub record Obeyed (d : ℕ) (kind : Kind) (res : Result) (r : Reply) (s s' out out' : List ℕ) : Type 0 where
  pub told : Carries kind res r out out'
  pub says : Says d res.desk s s'

-- of a command on the records that takes no data, and sends some
pub record Sent (c : TableCommand) (d : ℕ) (kind : Kind) (r : Reply) (s out out' : List ℕ) : Type 0 where
  pub obeyed : (body : List ℕ) → Obeyed d kind (ruled (OnTable c) kind (kept d s) body) r s s out out'
