-- `lockarea::add` meets its contract: one law of `Adds` for each way out. Assumes nothing.
use native.Mathlib.Omega.{arith}
use mathlib.Core.Path.{◌∙◌}
use Rattle.lockarea.proofs.Adds.{adds_none, adds-room, adds-full}
use Rattle.lockarea.proofs.add.Goals as goal

pub returns-then-valid-eq0 : goal.returns-then-valid-eq0
returns-then-valid-eq0 c =
    adds_none c.args.uid c.args.valid c.args.n c.args.p.now (λ i. (c.type_inv.p i).fits) c.requires.0 c.requires.1 c.if-valid-eq0.true

pub returns-then-n-lt-MOST : goal.returns-then-n-lt-MOST
returns-then-n-lt-MOST c =
    let e = adds-room c.args.uid c.args.valid c.args.n c.args.p.now (λ i. (c.before.before.before.before.before.before.before.slice_known-1.given i).fits) c.requires.0 c.requires.1 c.if-valid-eq0.false (omega arith) in
    (e.0, c.write_lock.ensures ∙ e.1)

pub returns : goal.returns
returns c =
    let e = adds-full c.args.uid c.args.valid c.args.n c.args.p.now (λ i. (c.before.before.before.before.before.before.before.before.before.before.before.slice_known-1.given i).fits) c.requires.0 c.requires.1 c.if-valid-eq0.false (omega arith) in
    (e.0, c.write_lock-2.ensures ∙ rw c.drop_first.ensures e.1)
