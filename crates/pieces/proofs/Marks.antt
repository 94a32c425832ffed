-- The octets of a separator or an end: what a bit chooses, and the user's. Assumes nothing.
use Prim.Native.Nat.{ℕ, ◌+◌, ◌-◌, ◌≤◌}
use mathlib.Core.Path.{◌≡◌}
use mathlib.Core.List.{List, []}
use native.Mathlib.Omega.{arith}
use lib.Count.{count_trailing_zeros}
use lib.Dec.{lit≤}
use lib.ListN.{length, get_or, take, drop}
use Rattle.octets.specs.Parts.{part}
use Rattle.octets.proofs.Each.{all-get_or}
use Rattle.rules.specs.Line.{marks, mark_of}

-- bit k is the lowest that is set
pub chosen : (char : ℕ) (user t : List ℕ) (k : ℕ) → count_trailing_zeros 8 char ≡ k → t ≡ get_or (marks user) k [] → t ≡ mark_of char user
unfolding mark_of
chosen char user t k e h = rw e h

pub mark-small : (char : ℕ) (user : List ℕ) → length user ≤ 3 → length (mark_of char user) ≤ 3
unfolding mark_of marks
mark-small char user h =
    all-get_or (λ (s : List ℕ). length s ≤ 3) (marks user) (count_trailing_zeros 8 char) [] (lit≤ tt, (lit≤ tt, (lit≤ tt, (lit≤ tt, (lit≤ tt, (lit≤ tt, (lit≤ tt, (h, tt)))))))) (lit≤ tt)

-- a slice from at to at + n is a part
pub cut : (at n : ℕ) (s : List ℕ) → take (at + n - at) (drop at s) ≡ part at n s
unfolding part
cut at n s =
    let e : at + n - at ≡ n = omega arith in
    rw e
