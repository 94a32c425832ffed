-- `frame::Standard::frame` meets its contract: the data begin where a frame of this kind has them. Assumes nothing.
use Prim.Native.Nat.{ℕ}
use mathlib.Core.Path.{ap}
use Rattle.frame.specs.declared.Kind.TheVariants.{Standard}
use Rattle.frame.specs.declared.Frame.{Frame}
use Rattle.frame.proofs.Standard.frame.Goals as goal

pub returns : goal.returns
returns c =
    let a = c.args in
    let from : ℕ → Frame = λ s. record { kind = Standard; address = a.address; control = a.control; start = s; len = a.len } in
    ap from c.data_at.ensures.0
