-- A change of a row and what it means: something done to the desk that the row says. Assumes nothing.
use Rattle.std.specs.Prelude.{ℕ, ◌≤◌, ◌≡◌, List, length}
use Rattle.octets.specs.Numbers.{number}
use Rattle.rules.specs.Desk.{Desk}
use Rattle.store.specs.Layout.{row_width}
use Rattle.store.specs.Rows.{login_field, mark_field, field}
use Rattle.store.specs.View.{desk_in}

-- a row's length, and login and mark 0 or 1
pub record Fit (row : List ℕ) : Type 0 where
  pub size : length row ≡ row_width
  pub login : number (field row login_field) ≤ 1
  pub mark : number (field row mark_field) ≤ 1

-- f is done to the desk, whatever records it holds
pub record Change (f : Desk → Desk) (row row' : List ℕ) : Type 0 where
  pub fit : Fit row'
  pub means : (rs : List (List ℕ)) → desk_in row' rs ≡ f (desk_in row rs)
