-- Whether a store is sound, row by row, as it is tested. Assumes nothing.
use Rattle.std.specs.Prelude.{ℕ, ◌≡◌, Bool, true, ◌&&◌, List, length}
use Rattle.octets.specs.Tests.{all_of}
use Rattle.rules.specs.Legal.{record_legal, desk_legal}
use Rattle.store.specs.View.{desk_in}
use Rattle.store.specs.Sound.{flags_right}

unfoldable pub row_sound : List ℕ → List (List ℕ) → Bool
row_sound row rs = flags_right row && desk_legal (desk_in row rs)

-- r is what a test says of a desk's records, where all that is known of them is that they are legal, and how many
pub record Tells (held : ℕ) (P : List (List ℕ) → Bool) (r : Bool) : Type 0 where
  pub told : (rs : List (List ℕ)) → length rs ≡ held → all_of record_legal rs ≡ true → r ≡ P rs
