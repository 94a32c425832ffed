-- `store::used` meets its contract. Assumes nothing.
use mathlib.Core.Path.{sym, ◌∙◌}
use native.Mathlib.Omega.{arith}
use Rattle.store.proofs.Headers.{used-read}
use Rattle.store.proofs.used.Goals as goal

pub returns : goal.returns
returns c = (c.get16.ensures ∙ sym (used-read _), omega arith)
