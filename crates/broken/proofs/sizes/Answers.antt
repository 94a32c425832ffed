-- `broken::sizes` is safe and ends: the part lent lies within the array. Assumes nothing.
use native.Mathlib.Omega.{arith}
use Rattle.std.proofs.lemmas.List.{length-take}
use Rattle.broken.proofs.sizes.Goals as goal

pub slice_bounds-probe-length : goal.slice_bounds-probe-length
slice_bounds-probe-length g c = simp length-take (omega (arith, c.probe.auto.store))
