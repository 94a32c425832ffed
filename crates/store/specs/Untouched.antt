-- What a change of a store leaves alone: where its areas lie, and every octet of no area. Assumes nothing.
use Rattle.std.specs.Prelude.{ℕ, ◌<◌, ◌≡◌, List, get_or}
use Rattle.octets.specs.Parts.{part, Apart}
use Rattle.store.specs.Layout.{area_count, used_at, size_of, header, start_of}

-- octet i lies in no area: not in the header, not in the rows, not in the entries
abbrev pub Outside : List ℕ → ℕ → Type 0
Outside s i = (k : ℕ) → k < area_count → Apart (start_of (header s) k) (size_of k) i 1

-- the header's offsets are as before, and every octet outside header, rows and entries
pub record Untouched (s s' : List ℕ) : Type 0 where
  pub offsets : part 0 used_at s' ≡ part 0 used_at s
  pub outside : (i : ℕ) → Outside s i → get_or s' i 0 ≡ get_or s i 0
