-- What a line is answered is a text that is no longer than the longest line. Assumes nothing.
use Prim.Native.Nat.{ℕ, ◌≤◌}
use mathlib.Core.List.{List, []}
use native.Mathlib.Omega.{arith}
use lib.ListN.{length}
use Rattle.depot.proofs.Short.{frame-short, sighting-short, tick-short}
use Rattle.text.specs.Listing.{Line, frame, sighting, tick, not_read, longest_line, not_read_line, printed, Printed}
use Rattle.text.proofs.Printing.{printed-short}
use Rattle.answering.specs.Answered.{Answered}

pub record Prints (out : List ℕ) (n : ℕ) (out' : List ℕ) : Type 0 where
  pub text : List ℕ
  pub short : length text ≤ longest_line
  pub prints : Printed text out n out'

pub answered-text : (l : Line) (s reply out : List ℕ) (n : ℕ) (s' reply' out' : List ℕ) → Answered l s reply out n s' reply' out' → Prints out n out'
unfolding not_read_line
answered-text (frame f) s reply out n s' reply' out' q =
    let a = q.answers in
    record { text = printed a.0 reply'; short = printed-short a.0 reply' (frame-short s reply a.0 s' reply' f (length reply) a.1); prints = a.2 }
answered-text (sighting desk uid mask) s reply out n s' reply' out' q =
    let a = q.answers in
    record { text = printed a.0 reply; short = printed-short a.0 reply (sighting-short s [] a.0 s' [] desk uid mask a.1); prints = a.3 }
answered-text tick s reply out n s' reply' out' q =
    let a = q.answers in
    record { text = printed a.0 reply; short = printed-short a.0 reply (tick-short s [] a.0 s' [] a.1); prints = a.3 }
answered-text not_read s reply out n s' reply' out' q = record { text = not_read_line; short = omega arith; prints = q.answers.2 }
