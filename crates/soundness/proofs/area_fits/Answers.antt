-- `soundness::area_fits` meets its contract. Each area passed is clear of area k. Assumes nothing.
use Prim.Native.Nat.{◌+◌}
use mathlib.Core.Path.{◌≡◌, sym}
use mathlib.Core.Bool.{and-false}
use native.Mathlib.Omega.{arith}
use borrow.Author.Tests.{lt-leb, le-leb}
use Rattle.octets.proofs.Every.{every-none, every_more, every-false, every-end}
use Rattle.octets.specs.Areas.{pair_clear}
use Rattle.store.specs.Layout.{header, start_of, size_of}
use Rattle.std.proofs.Common.{◌∙◌}
use Rattle.soundness.proofs.area_fits.Goals as goal
use Rattle.soundness.proofs.area_fits.Goals.{After-size}

-- where the area ends, by what was told
ends : (c : After-size)
    → c.start.result + c.size.result ≡ start_of (header c.args.s.now) c.args.k + size_of c.args.k
ends c = rw (c.start.ensures.0, c.size.ensures.0)

pub returns-then-start-size-gt-SIZE : goal.returns-then-start-size-gt-SIZE
returns-then-start-size-gt-SIZE c = rw (← ends (goal.at.returns-then-start-size-gt-SIZE c).After-size, lt-leb _ _ c.if-start-size-gt-SIZE.true)

pub returns-then-not-clear_pair : goal.returns-then-not-clear_pair
returns-then-not-clear_pair c =
    rw (every-false c.args.k (pair_clear (start_of (header c.args.s.now)) size_of c.args.k) c.loop-i.i (omega arith) (sym c.clear_pair.ensures ∙ c.if-not-clear_pair.true), and-false)

pub loop-i-preserved : goal.loop-i-preserved
loop-i-preserved c =
    let l = c.loop-i in
    every_more l.i _ l.invariant (sym c.clear_pair.ensures ∙ c.if-not-clear_pair.false)

pub returns : goal.returns
returns c =
    rw (← ends (goal.at.returns c).After-size, le-leb _ _ c.if-start-size-gt-SIZE.false) (sym (every-end _ _ c.loop-i.i c.loop-i.invariant (omega arith)))

pub loop-i-init : goal.loop-i-init
loop-i-init c = every-none _
