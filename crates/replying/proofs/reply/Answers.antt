-- `replying::reply` meets its contract: what the desk's command left, sealed. Assumes nothing.
use mathlib.Core.Path.{sym, ◌∙◌}
use native.Mathlib.Omega.{arith}
use Rattle.frame.specs.declared.Way.TheVariants.{Request}
use Rattle.frame.proofs.Verdict.{sound-fits, data-lent}
use Rattle.replying.proofs.Sealing.{never-not, replied}
use Rattle.replying.proofs.reply.Goals as goal

pub overflow_add-end : goal.overflow_add-end
overflow_add-end c =
    omega (arith, sound-fits Request c.args.frame.now c.args.f c.requires.1)

pub slice_bounds-serve-end : goal.slice_bounds-serve-end
slice_bounds-serve-end c =
    omega (arith, sound-fits Request c.args.frame.now c.args.f c.requires.1)

pub returns-in-Some : goal.returns-in-Some
returns-in-Some c =
    let a = c.args in
    replied a.frame.now a.store.now c.serve-r.new.s a.out.now _ _ a.f c.serve-r.result c.requires.0 c.requires.1 c.requires.3 c.requires.2
    (data-lent a.f a.frame.now) c.serve-r.ensures c.in-Some.n _ (sym c.seal_reply.ensures.value ∙ c.in-Some.is)
    c.seal_reply.ensures.out_after

pub returns-in-None : goal.returns-in-None
returns-in-None c =
    let a = c.args in
    absurd (never-not a.frame.now a.store.now c.serve-r.new.s a.out.now _ _ a.f c.serve-r.result c.requires.0 c.requires.1 c.requires.3 c.requires.2
    (data-lent a.f a.frame.now) c.serve-r.ensures (sym c.seal_reply.ensures.value ∙ c.in-None.is))
