-- `soundness::header_fine` meets its contract. Each area passed fits. Assumes nothing.
use mathlib.Core.Path.{refl}
use native.Mathlib.Omega.{arith}
use Rattle.octets.proofs.Every.{every-none, every_more, every-false, every-end}
use Rattle.store.specs.Layout.{area_count}
use Rattle.store.specs.Sound.{area_fits, fine}
use Rattle.std.proofs.Common.{sym, ◌∙◌}
use Rattle.soundness.proofs.header_fine.Goals as goal

pub returns-then-not-area_fits : goal.returns-then-not-area_fits
unfolding fine
returns-then-not-area_fits c = rw (every-false area_count (area_fits _) c.loop-k.k (omega arith) (sym c.area_fits.ensures ∙ c.if-not-area_fits.true))

pub loop-k-preserved : goal.loop-k-preserved
loop-k-preserved c =
    let l = c.loop-k in
    every_more l.k _ l.invariant (sym c.area_fits.ensures ∙ c.if-not-area_fits.false)

pub returns : goal.returns
unfolding fine
returns c =
    let l = c.loop-k in
    rw (every-end area_count (area_fits _) l.k l.invariant (omega arith), ← c.used.ensures.0) refl

pub loop-k-init : goal.loop-k-init
loop-k-init c = every-none _
