-- What is known of a doing: the row that is made of it, and what that means. Assumes nothing.
use mathlib.Core.Path.{◌≡◌}
use mathlib.Core.List.{List}
use Prim.Native.Nat.{ℕ}
use Rattle.doings.specs.declared.Doing.{Doing}
use Rattle.rows.specs.Change.{Change}
use Rattle.doings.specs.Doing.{done_by}

pub doing-done : (what x : Doing) (row row' made : List ℕ) → what ≡ x → row' ≡ made → Change (done_by x) row made → Change (done_by what) row row'
doing-done what x row row' made e h c = rw (e, h) c
