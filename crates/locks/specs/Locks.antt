-- The locks of one desk: a tick, a search, a new lock, which lists are sound. Assumes nothing.
use Rattle.std.specs.Prelude.{ℕ, ◌+◌, ◌-◌, Bool, true, cond, not, ◌&&◌, List, [], ◌∷◌, ◌++◌, ltb, leb, eqb, length, drop, Option, Some, None, is_some}
use Rattle.octets.specs.Tests.{all_of}
use Rattle.locks.specs.declared.Lock.{Lock}

-- ---- a tick

-- a lock with one tick less
abbrev pub less : Lock → Lock
less l = record { uid = l.uid; left = l.left - 1 }

-- a lock loses one tick, and goes where it reaches zero
unfoldable pub aged_of : Lock → Option Lock
aged_of l = cond (ltb 1 l.left) (Some (less l)) None

-- before the others stands one that stays
abbrev pub kept_before : Option Lock → List Lock → List Lock
kept_before (Some l) ls = l ∷ ls
kept_before None ls = ls

-- each lock loses one tick; those that reach zero go, and the others keep their order
unfoldable pub swept_of : List Lock → List Lock
swept_of [] = []
swept_of (l ∷ ls) = kept_before (aged_of l) (swept_of ls)

-- they are swept, and what is left of them stands in front; what stood behind that stays as it was
abbrev pub sweep_of : List Lock → List Lock
sweep_of ls = swept_of ls ++ drop (length (swept_of ls)) ls

-- ---- a search

-- it is the lock of that UID
abbrev pub is_of : ℕ → Lock → Bool
is_of uid l = eqb l.uid uid

-- the first lock with that UID: its place, counted from k, and the ticks that it has left
unfoldable pub found_from : ℕ → ℕ → List Lock → Option (ℕ × ℕ)
found_from k uid [] = None
found_from k uid (l ∷ ls) = cond (is_of uid l) (Some (k, l.left)) (found_from (k + 1) uid ls)

abbrev pub found_in : ℕ → List Lock → Option (ℕ × ℕ)
found_in uid ls = found_from 0 uid ls

-- a lock with that UID stands
abbrev pub locked : ℕ → List Lock → Bool
locked uid ls = is_some (found_in uid ls)

abbrev pub left_of : Option (ℕ × ℕ) → ℕ
left_of (Some found) = found.1
left_of None = 0

-- the ticks that the lock of that UID has left; 0 where none stands
abbrev pub ticks_left : ℕ → List Lock → ℕ
ticks_left uid ls = left_of (found_in uid ls)

-- ---- a new lock

abbrev pub most_locks : ℕ
most_locks = 64

-- where so many locks stand, the oldest gives way
unfoldable pub made_room : List Lock → List Lock
made_room ls = cond (ltb (length ls) most_locks) ls (drop 1 ls)

-- a lock of VALID-TIME ticks at the end, where that is above 0
unfoldable pub added : ℕ → ℕ → List Lock → List Lock
added uid valid ls = cond (eqb valid 0) ls (made_room ls ++ (record { uid = uid; left = valid } ∷ []))

-- ---- sound lists

-- ticks from 1 up to VALID-TIME in force
unfoldable pub lock_legal : ℕ → Lock → Bool
lock_legal valid l = leb 1 l.left && leb l.left valid

-- no UID stands twice
unfoldable pub distinct : List Lock → Bool
distinct [] = true
distinct (l ∷ ls) = not (locked l.uid ls) && distinct ls

unfoldable pub locks_legal : ℕ → List Lock → Bool
locks_legal valid ls = leb (length ls) most_locks && all_of (lock_legal valid) ls && distinct ls
