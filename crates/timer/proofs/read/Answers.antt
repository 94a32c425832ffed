-- `timer::read` meets its contract. Assumes nothing.
use mathlib.Core.Path.{◌≡◌, ◌∙◌}
use Prim.Native.Nat.{◌+◌}
use native.Mathlib.Nat.{add-zero}
use lib.Dec.{lit<, lit≤}
use lib.ListN.{get_or}
use Rattle.octets.specs.Parts.{part}
use Rattle.octets.proofs.Puts.{part_at}
use Rattle.octets.proofs.Numbers.{u16_at-part}
use Rattle.timer.specs.Clock.{timer_from}
use Rattle.timer.proofs.read.Goals as goal

pub returns : goal.returns
unfolding timer_from
returns c =
    let a = c.args in
    let s = a.s.now in
    let h : get_or (part a.at 4 s) 0 0 ≡ get_or s a.at 0 = part_at a.at 4 s 0 (lit< tt) ∙ rw add-zero in
    let m : get_or (part a.at 4 s) 1 0 ≡ get_or s (a.at + 1) 0 = part_at a.at 4 s 1 (lit< tt) in
    rw (h, m, u16_at-part 2 a.at 4 s (lit≤ tt), c.get16.ensures)
