-- `taking::take_all` meets its contract: what is left of the part, taken from here on, is the part taken from the start. Assumes nothing.
use Prim.Native.Nat.{◌+◌, ◌≤◌}
use native.Mathlib.Omega.{arith}
use borrow.Author.Rules.{rules}
use lib.ListN.{length}
use Rattle.text.specs.Listing.{longest_line}
use Rattle.turning.proofs.Turns.{takes-within}
use Rattle.taking.proofs.Onward.{onward-none, onward-more, took-end, took-full}
use Rattle.taking.proofs.take_all.Goals as goal

pub loop-p-init : goal.loop-p-init
loop-p-init c = (search rules, search rules, onward-none _ _)

pub loop-p-preserved : goal.loop-p-preserved
loop-p-preserved c =
    let l = c.loop-p in
    -- the next line has room
    let room : l.p.written + longest_line ≤ length l.out = omega (arith, c.if-out-p-ge-LONGEST.true, l.invariant.1) in
    (search rules, takes-within _ _ _ room c.take-p.ensures.1, onward-more _ _ _ _ l.invariant.2 _ _ c.take-p.ensures.0 c.loop-p-test.true room c.take-p.ensures.1)

pub returns-else-out-p-ge-LONGEST : goal.returns-else-out-p-ge-LONGEST
returns-else-out-p-ge-LONGEST c =
    let l = c.loop-p in
    took-full _ _ _ _ l.invariant.2 c.loop-p-test.true (omega (arith, c.if-out-p-ge-LONGEST.false, l.invariant.1))

pub returns-after-loop-p : goal.returns-after-loop-p
returns-after-loop-p c = took-end _ _ _ _ c.loop-p.invariant.2 c.loop-p-test.false
