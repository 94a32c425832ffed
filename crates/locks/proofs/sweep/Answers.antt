-- `locks::sweep` meets its contract: each turn is one of two, as `age` says. Assumes nothing.
use Rattle.std.proofs.Common.{◌≡◌, take, sym, ◌∙◌, arith}
use lib.Seq.{take_all}
use Rattle.locks.proofs.Lookups.{none}
use Rattle.locks.proofs.Sweeps.{none_left, sweep-none, left-within, turn-kept, turn-gone}
use Rattle.locks.proofs.sweep.Goals as goal
use Rattle.locks.proofs.sweep.Goals.{in-Some, in_default}

pub loop-i-init : goal.loop-i-init
loop-i-init c = (sym (none_left c.args.locks.now), sym (sweep-none c.args.locks.now))

pub bounds-locks-n : goal.bounds-locks-n
bounds-locks-n c = omega (arith, left-within c.args.locks.now c.loop-i.i (omega arith), c.loop-i.auto.locks)

pub loop-i-preserved : goal.loop-i-preserved
loop-i-preserved c =
    let l = c.loop-i in
    let s = c.args.locks.now in
    elim c.match-age.branch [
      | in-Some w ↦
          let t = turn-kept s l.locks l.n l.i none (omega arith) l.invariant.0 l.invariant.1 w.in-Some.l (sym w.in-Some.is ∙ c.age.ensures) in
          (w.n-is ∙ t.0, w.locks-is ∙ t.1)
      | in_default w ↦
          let t = turn-gone s l.locks l.n l.i none (omega arith) l.invariant.0 l.invariant.1 (sym w.in_default.is ∙ c.age.ensures) in
          (w.n-is ∙ t.0, w.locks-is ∙ t.1)
    ]

pub returns : goal.returns
returns c =
    let s = c.args.locks.now in
    let all : take c.loop-i.i s ≡ s = take_all c.loop-i.i s (omega arith) in
    (rw all at c.loop-i.invariant.0, rw all at c.loop-i.invariant.1)
