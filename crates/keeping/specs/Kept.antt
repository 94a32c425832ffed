-- What a store keeps for a desk, and a store that says another desk there. Assumes nothing.
use Rattle.std.specs.Prelude.{ℕ, ◌≡◌, true, List, set}
use Rattle.rules.specs.Desk.{Desk}
use Rattle.rules.specs.Box.{desk_at}
use Rattle.store.specs.View.{view}
use Rattle.store.specs.Sound.{sound}
use Rattle.store.specs.Untouched.{Untouched}
use Rattle.doings.specs.Doing.{on_table, held_table}
use Rattle.keeping.specs.declared.Marks.{Marks}

-- what a store keeps for desk d
abbrev pub kept : ℕ → List ℕ → Desk
kept d s = desk_at (view s) d

-- the store is sound and says desk' at d, and all else as before; its areas stay where they lie, and the octets outside them as they are
pub record Says (d : ℕ) (desk' : Desk) (s s' : List ℕ) : Type 0 where
  pub still : sound s' ≡ true
  pub view-is : view s' ≡ set (view s) d desk'
  pub alone : Untouched s s'

-- login, overflow mark, removal due, TAB-START
unfoldable pub marks_of : Desk → Marks
marks_of d = record { logged_in = d.logged_in; overflow = d.table.overflow; due = d.table.due; start = d.table.start }

-- a desk with other records
abbrev pub with_held : List (List ℕ) → Desk → Desk
with_held rs d = on_table (held_table rs) d
