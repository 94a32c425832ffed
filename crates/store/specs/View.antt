-- What a store says: the box of the rules, wherever its areas lie. Assumes nothing.
use Rattle.std.specs.Prelude.{ℕ, suc, List, [], ◌∷◌, get_or, eqb}
use Rattle.octets.specs.Parts.{rows}
use Rattle.octets.specs.Numbers.{number}
use Rattle.timer.specs.Clock.{timer_from}
use Rattle.lockarea.specs.Area.{locks_in}
use Rattle.table.specs.Entries.{desks, entries, records_of}
use Rattle.rules.specs.Desk.{Desk}
use Rattle.rules.specs.Box.{Box}
use Rattle.store.specs.Layout.{header_area, rows_area, entries_area, row_width, used_of, areas}
use Rattle.store.specs.Rows.{ram_field, eeprom_field, valid_field, login_field, timer_field, mark_field, due_field, start_field, count_field, locks_field, fields}

-- the desk that the fields of a row say, with the records rs
unfoldable pub desk_of : List (List ℕ) → List (List ℕ) → Desk
desk_of fs rs =
    record {
      ram = get_or fs ram_field [];
      eeprom = get_or fs eeprom_field [];
      valid = number (get_or fs valid_field []);
      logged_in = eqb (number (get_or fs login_field [])) 1;
      timer = timer_from (get_or fs timer_field []);
      locks = locks_in (number (get_or fs count_field [])) (get_or fs locks_field []);
      table =
          record { held = rs; overflow = eqb (number (get_or fs mark_field [])) 1; due = number (get_or fs due_field []); start = number (get_or fs start_field []) };
    }

abbrev pub desk_in : List ℕ → List (List ℕ) → Desk
desk_in row rs = desk_of (fields row) rs

-- desk d and those after it, each with its own records of es
unfoldable pub box_from : ℕ → List (List ℕ) → List (List ℕ) → Box
box_from d [] es = []
box_from d (row ∷ rest) es = desk_in row (records_of d es) ∷ box_from (suc d) rest es

-- by the areas: the rows, and the entries in use
abbrev pub rows_in : List (List ℕ) → List (List ℕ)
rows_in all = rows desks row_width (get_or all rows_area [])

abbrev pub entries_in : List (List ℕ) → List (List ℕ)
entries_in all = entries (used_of (get_or all header_area [])) (get_or all entries_area [])

-- the entries in use of a store
abbrev pub in_use : List ℕ → List (List ℕ)
in_use s = entries_in (areas s)

unfoldable pub view_of : List (List ℕ) → Box
view_of all = box_from 0 (rows_in all) (entries_in all)

unfoldable pub view : List ℕ → Box
view s = view_of (areas s)
