-- What a command that takes records away leaves. Assumes nothing.
use Rattle.std.specs.Prelude.{ℕ, ◌≡◌, true, List, []}
use Rattle.frame.specs.declared.Kind.{Kind}
use Rattle.rules.specs.declared.control.Command.TheVariants.{OnTable}
use Rattle.rules.specs.declared.control.TableCommand.{TableCommand}
use Rattle.rules.specs.Desk.{Desk}
use Rattle.rules.specs.Legal.{desk_legal}
use Rattle.doings.specs.declared.Doing.{Doing}
use Rattle.doings.specs.Doing.{done_by}
use Rattle.keeping.specs.Kept.{kept, Says, with_held}
use Rattle.effects.specs.declared.Reply.{Reply}
use Rattle.records.specs.Obeyed.{ruled, Obeyed}

-- of a command on the records that takes no data and sends none: the same in either kind of frame
pub record Quiet (c : TableCommand) (d : ℕ) (r : Reply) (s s' : List ℕ) : Type 0 where
  pub obeyed : (kind : Kind) (body out : List ℕ) → Obeyed d kind (ruled (OnTable c) kind (kept d s) body) r s s' out out

-- a doing that leaves a legal desk, with its records and without them
pub record Empties (what : Doing) (desk : Desk) : Type 0 where
  pub full : desk_legal (done_by what desk) ≡ true
  pub bare : desk_legal (with_held [] (done_by what desk)) ≡ true

-- it was done, and no records are left
pub record Emptied (what : Doing) (d : ℕ) (r : Reply) (s s' : List ℕ) : Type 0 where
  pub plain : r ≡ record { status = 0; len = 0 }
  pub says : Says d (with_held [] (done_by what (kept d s))) s s'
