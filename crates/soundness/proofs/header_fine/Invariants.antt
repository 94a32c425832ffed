-- Of `soundness::header_fine`: each area passed fits. Assumes nothing.
use Rattle.std.proofs.Common.{◌≡◌, true}
use Rattle.octets.specs.Tests.{every}
use Rattle.store.specs.Layout.{header}
use Rattle.store.specs.Sound.{area_fits}
use Rattle.soundness.proofs.header_fine.Given as goal

abbrev pub invariant-loop-k : goal.invariant-loop-k
invariant-loop-k l = every l.k (area_fits (header l.s)) ≡ true
