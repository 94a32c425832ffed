-- `lines::put_lines` meets its contract. After k turns the lines of the first k records are written. Assumes nothing.
use Prim.Native.Nat.{◌+◌, ◌*◌, ◌-◌, ◌≤◌}
use mathlib.Core.Path.{◌≡◌, refl, sym, ap, ◌∙◌}
use native.Mathlib.Nat.{mul-zero, mul-suc}
use native.Mathlib.Numerals.{add-one}
use native.Mathlib.Omega.{arith}
use lib.ListN.{length, length-take, length-drop}
use Rattle.table.specs.Entries.{record_width}
use Rattle.octets.specs.Parts.{put}
use Rattle.octets.proofs.Puts.{put-length}
use Rattle.pieces.specs.Pieces.{width_of}
use Rattle.lines.proofs.Turns.{turn-room, records-fit, none_first, all_first, line-turn}
use Rattle.lines.proofs.put_lines.Goals as goal
use Rattle.lines.proofs.put_lines.Goals.{In-loop-k}

-- the record that a turn reads lies in what was sent
inside : (c : In-loop-k) → 2 + record_width * c.loop-k.k + record_width ≤ length c.args.sent.now
inside c = omega (arith, records-fit c.args.sent.now (c.loop-k.k + 1) (omega arith))

-- and there is room for its line
fits : (c : In-loop-k) → c.loop-k.at + width_of c.args.shape.now.block ≤ length c.loop-k.out
fits c = omega (arith, turn-room (width_of c.args.shape.now.block) c.loop-k.k c.args.m (omega arith))

pub loop-k-init : goal.loop-k-init
unfolding put
loop-k-init c = (sym (mul-zero _), refl, rw none_first)

pub put_line-at-requires : goal.put_line-at-requires
put_line-at-requires c =
    (simp (length-take, length-drop) (omega (arith, inside (goal.at.put_line-at-requires c).In-loop-k)), simp (length-take, length-drop) (omega (arith, fits (goal.at.put_line-at-requires c).In-loop-k)))

pub loop-k-preserved : goal.loop-k-preserved
loop-k-preserved c =
    let l = c.loop-k in
    let e = line-turn c.args.shape.now.block c.args.sent.now l.k l.at (length l.out - l.at) (2 + record_width * l.k + record_width - (2 + record_width * l.k)) c.put_line-at.new.out l.out c.args.out.now (omega arith) (omega arith) l.invariant.0 (omega (arith, fits (goal.at.loop-k-preserved c).In-loop-k)) (omega (arith, fits (goal.at.loop-k-preserved c).In-loop-k)) l.invariant.2 c.put_line-at.ensures.1 in
    (rw (add-one l.k, mul-suc) (omega arith), ap length e ∙ put-length _ _ _, e)

pub returns : goal.returns
returns c =
    let l = c.loop-k in
    let e : l.k ≡ c.args.m = omega arith in
    (l.invariant.0 ∙ rw e, l.invariant.2 ∙ rw (all_first c.args.shape.now.block c.args.sent.now l.k (e ∙ c.requires.0)))

pub overflow_mul-from : goal.overflow_mul-from
overflow_mul-from c = omega (arith, inside c)

pub overflow_add-from : goal.overflow_add-from
overflow_add-from c = omega (arith, inside c)

pub overflow_add-from-in-loop-k : goal.overflow_add-from-in-loop-k
overflow_add-from-in-loop-k c = omega (arith, inside c)

pub slice_bounds-put_line-end : goal.slice_bounds-put_line-end
slice_bounds-put_line-end c = omega (arith, inside c)

pub slice_bounds-put_line-count-in-loop-k : goal.slice_bounds-put_line-count-in-loop-k
slice_bounds-put_line-count-in-loop-k c = omega (arith, fits (goal.at.slice_bounds-put_line-count-in-loop-k c).In-loop-k)

pub slice_bounds-put_line-start-in-loop-k : goal.slice_bounds-put_line-start-in-loop-k
slice_bounds-put_line-start-in-loop-k c = omega (arith, fits (goal.at.slice_bounds-put_line-start-in-loop-k c).In-loop-k)

pub overflow_add-at : goal.overflow_add-at
overflow_add-at c = omega (arith, fits (goal.at.overflow_add-at c).In-loop-k)
