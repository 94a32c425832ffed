-- `lockarea::legal` meets its contract, by those of its three callees. Assumes nothing.
use Rattle.std.proofs.Common.{◌≡◌, ◌≤◌, ◌&&◌, rules, length, sym, ◌∙◌, arith}
use Rattle.octets.specs.Tests.{all_of}
use Rattle.lockarea.specs.Area.{locks_in}
use Rattle.locks.specs.Locks.{distinct, locks_legal, most_locks}
use Rattle.lockarea.proofs.Stored.{locks-in-length, no-locks}
use Rattle.locks.proofs.Sound.{legal_few}
use Rattle.lockarea.proofs.legal.Goals as goal
use Rattle.lockarea.proofs.legal.Goals.{After-load, After-each_legal}

-- no lock stands
pub returns-then-n-eq0 : goal.returns-then-n-eq0
unfolding locks_legal all_of distinct
returns-then-n-eq0 c = rw (no-locks _ c.args.p.now c.if-n-eq0.true)

-- what was read, and what is tested of it
loaded : (c : After-load) → c.load.new.locks ≡ locks_in c.args.n c.args.p.now
loaded c = search rules

tested : (c : After-each_legal) → (c.each_legal.result && distinct c.load.new.locks) ≡ locks_legal c.args.valid (locks_in c.args.n c.args.p.now)
tested c =
    let n = c.args.n in
    let p = c.args.p.now in
    let few : length (locks_in n p) ≤ most_locks = omega (arith, locks-in-length n p) in
    rw (c.each_legal.ensures, loaded (goal.at.After-each_legal c).After-load) (sym (legal_few c.args.valid (locks_in n p) few))

pub returns-else-each_legal : goal.returns-else-each_legal
returns-else-each_legal c =
    c.if-each_legal.false ∙ rw c.if-each_legal.false at (tested (goal.at.returns-else-each_legal c).After-each_legal)

pub returns-then-each_legal : goal.returns-then-each_legal
returns-then-each_legal c =
    c.all_differ.ensures ∙ rw c.if-each_legal.true at (tested (goal.at.returns-then-each_legal c).After-each_legal)
