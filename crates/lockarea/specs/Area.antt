-- The locks of one desk as octets in the store. Assumes nothing.
use Rattle.std.specs.Prelude.{ℕ, List, ◌++◌, map}
use Rattle.octets.specs.Parts.{part, rows, joined}
use Rattle.octets.specs.Numbers.{number, octets, u16_at}
use Rattle.locks.specs.declared.Lock.{Lock}

abbrev pub lock_width : ℕ
lock_width = 10

-- a lock as octets: the UID, then the ticks left
unfoldable pub lock_octets : Lock → List ℕ
lock_octets l = octets 8 l.uid ++ octets 2 l.left

-- the lock that such octets hold
unfoldable pub lock_from : List ℕ → Lock
lock_from r = record { uid = number (part 0 8 r); left = u16_at 8 r }

-- the first n locks of a store
unfoldable pub locks_in : ℕ → List ℕ → List Lock
locks_in n p = map lock_from (rows n lock_width p)

-- locks one after the other, as octets
unfoldable pub locks_octets : List Lock → List ℕ
locks_octets ls = joined (map lock_octets ls)
