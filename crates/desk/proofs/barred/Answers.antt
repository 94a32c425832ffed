-- `desk::barred` meets its contract. Assumes nothing.
use mathlib.Core.Bool.{Bool, true, not, ◌&&◌}
use mathlib.Core.Path.{◌≡◌, ap}
use borrow.Author.Rules.{rules}
use Rattle.keeping.specs.declared.Marks.{Marks}
use Rattle.keeping.specs.Kept.{marks_of}
use Rattle.desk.proofs.barred.Goals as goal

-- where a login is needed, it is missing if nobody is logged in
needed : (login out missing : Bool) → login ≡ true → out ≡ missing → out ≡ (login && missing)
needed login out missing e f = rw e f

pub returns : goal.returns
unfolding marks_of
returns c = needed _ _ _ (search rules) (ap (λ (x : Marks). not x.logged_in) c.marks_of.ensures)
