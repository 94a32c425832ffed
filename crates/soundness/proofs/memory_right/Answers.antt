-- `soundness::memory_right` meets its contract. Assumes nothing.
use mathlib.Core.Path.{sym, ◌∙◌}
use Rattle.store.proofs.FieldOctets.{memory-test}
use Rattle.soundness.proofs.memory_right.Goals as goal

pub returns : goal.returns
returns c =
    c.shape_legal.ensures ∙ sym (memory-test _ _ (λ i. (c.before.before.before.before.before.before.shared_slice_known-1.given i).fits) c.requires)
