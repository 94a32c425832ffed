-- `answering::sighted` meets its contract: the desk digit is decimal, and nine octets stand behind it. Assumes nothing.
use Prim.Native.Nat.{ℕ, ◌≤◌}
use mathlib.Core.Path.{◌≡◌}
use mathlib.Core.List.{[]}
use native.Mathlib.Omega.{arith}
use lib.ListN.{length, get_or, length-replicate}
use Rattle.depot.proofs.Short.{sighting-short}
use Rattle.text.proofs.Printing.{room_for}
use Rattle.digits.proofs.Values.{rest_of}
use Rattle.answering.proofs.NoHex.{sighting-facts, nine-octets, sighting-answered}
use Rattle.answering.proofs.sighted.Goals as goal
use Rattle.answering.proofs.sighted.Goals.{Start}

facts : (c : Start) → (length c.args.s.now ≡ 20) × (0x30 ≤ get_or c.args.s.now 1 0) × (get_or c.args.s.now 1 0 ≤ 0x39)
facts c = sighting-facts c.args.s.now c.requires.0

pub slice_bounds-decode-count : goal.slice_bounds-decode-count
slice_bounds-decode-count c = omega (arith, facts (goal.at.slice_bounds-decode-count c).Start)

pub slice_bounds-decode-start : goal.slice_bounds-decode-start
slice_bounds-decode-start c = omega (arith, facts (goal.at.slice_bounds-decode-start c).Start)

pub bounds-s-1 : goal.bounds-s-1
bounds-s-1 c = omega (arith, facts (goal.at.bounds-s-1 c).Start)

pub overflow_sub-desk : goal.overflow_sub-desk
overflow_sub-desk c = omega (arith, facts (goal.at.overflow_sub-desk c).Start)

pub overflow_cast-desk : goal.overflow_cast-desk
overflow_cast-desk c = omega (arith, facts (goal.at.overflow_cast-desk c).Start)

pub show-requires : goal.show-requires
show-requires c =
    room_for _ _ c.args.out.now (sighting-short c.args.store.now [] _ _ _ _ _ _ c.sighting-a.ensures) c.requires.1

pub returns : goal.returns
returns c =
    let s = c.args.s.now in
    sighting-answered s _ _ _ _ _ _ _ _ _
    (nine-octets s _ _ _ _ (facts (goal.at.returns c).Start).0 (rest_of 2 s) (length-replicate {A = ℕ} 9 0) c.decode.ensures.0 c.decode.ensures.1)
    c.number.ensures c.sighting-a.ensures c.show.ensures
