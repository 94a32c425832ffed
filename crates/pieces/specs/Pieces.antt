-- How long the pieces of a scan line are. Assumes nothing.
use Rattle.std.specs.Prelude.{ℕ, ◌+◌, ◌*◌, cond, List, length, get_or, eqb}
use Rattle.rules.specs.Line.{heading, separator, ending}

-- how many octets show one
unfoldable pub shown_width : ℕ → ℕ
shown_width db_use = cond (eqb db_use 2) 2 1

-- how long each line is: heading, UID and timer, separator, end
unfoldable pub width_of : List ℕ → ℕ
width_of block = length (heading block) + 12 * shown_width (get_or block 0 0) + length (separator block) + length (ending block)
