-- Of `soundness::area_fits`: each area passed is clear of area k. Assumes nothing.
use Rattle.std.proofs.Common.{◌≡◌, true}
use Rattle.octets.specs.Tests.{every}
use Rattle.octets.specs.Areas.{pair_clear}
use Rattle.store.specs.Layout.{header, start_of, size_of}
use Rattle.soundness.proofs.area_fits.Given as goal

abbrev pub invariant-loop-i : goal.invariant-loop-i
invariant-loop-i l = every l.i (pair_clear (start_of (header l.s)) size_of l.k) ≡ true
