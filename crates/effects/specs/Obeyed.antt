-- What a command of a desk's row leaves once its tests are passed: a reply's status and data, and a row that says the rules' desk. Assumes nothing.
use Rattle.std.specs.Prelude.{ℕ, ◌≡◌, List, length}
use Rattle.std.proofs.Math.Option.{none}
use Rattle.octets.specs.Tests.{first}
use Rattle.octets.specs.Parts.{put}
use Rattle.frame.specs.declared.Kind.{Kind}
use Rattle.frame.specs.declared.Way.{Way}
use Rattle.frame.specs.Shape.{data_at}
use Rattle.rules.specs.declared.control.RowCommand.{RowCommand}
use Rattle.rules.specs.declared.control.Command.TheVariants.{OnRow}
use Rattle.rules.specs.Control.{terms_of}
use Rattle.rules.specs.Desk.{Desk}
use Rattle.rules.specs.Command.{Result, row_tests, row_effect}
use Rattle.store.specs.View.{desk_in}
use Rattle.rows.specs.Change.{Change}
use Rattle.effects.specs.declared.Reply.{Reply}

-- data of the length listed, of which no test of the command's own is given
pub record Allowed (c : RowCommand) (body : List ℕ) : Type 0 where
  pub size : length body ≡ (terms_of (OnRow c)).size
  pub passed : first (row_tests c body) ≡ none

-- what a command does
abbrev pub does : RowCommand → List ℕ → Desk → Result
does c body d = row_effect c d body

-- the status, and the data at their place in the output
pub record Carries (kind : Kind) (res : Result) (r : Reply) (out out' : List ℕ) : Type 0 where
  pub status-is : r.status ≡ res.status
  pub len_is : r.len ≡ length res.sent
  pub out-is : out' ≡ put (data_at Way.Reply kind) res.sent out

-- the answer of the rules, whatever records the desk holds
pub record RowObeyed (kind : Kind) (answer : Desk → Result) (r : Reply) (row row' out out' : List ℕ) : Type 0 where
  pub told : (rs : List (List ℕ)) → Carries kind (answer (desk_in row rs)) r out out'
  pub change : Change (λ d. (answer d).desk) row row'

-- a reply without data leaves the output as it was, in either kind of frame
pub record RowQuiet (answer : Desk → Result) (r : Reply) (row row' : List ℕ) : Type 0 where
  pub obeyed : (kind : Kind) (out : List ℕ) → RowObeyed kind answer r row row' out out
