-- `octets::number` meets its contract. Assumes nothing.
use Rattle.std.proofs.Common.{◌<◌, ◌≤◌, ◌^◌, ℕ, ap, refl, ◌∙◌, arith}
use native.Mathlib.Nat.{pow-le-pow_right}
use lib.Dec.{lit<}
use lib.Seq.{take_all}
use Rattle.octets.specs.Numbers.{number}
use Rattle.octets.proofs.Puts.{part_sliced, part_length}
use Rattle.octets.proofs.Numbers.{number_take_more, digit_lt, octets-part}
use Rattle.octets.proofs.number.Goals as goal

small : (i : ℕ) → i < 8 → 256 ^ i ≤ 256 ^ 7
small i h = pow-le-pow_right {n = 256} (lit< tt) {j = 7} (omega arith)

pub loop-b-init : goal.loop-b-init
unfolding number
loop-b-init g c = (refl, omega arith)

pub overflow_mul-sum : goal.overflow_mul-sum
overflow_mul-sum g c =
    let here = rw part_sliced at c.loop-b-test.true in
    let size = part_length c.args.at g.row.N c.args.s.now c.requires.1 in
    omega (arith, small c.loop-b.b-index (omega arith))

pub loop-b-preserved : goal.loop-b-preserved
loop-b-preserved g c =
    let octet = rw part_sliced at c.from.ensures in
    let low = octets-part c.args.at g.row.N c.args.s.now (λ i. omega (arith, c.type_inv.s i)) in
    let more = number_take_more _ _ c.loop-b-test.true in
    (omega (arith, more), digit_lt _ _ _ c.loop-b.invariant.1 (omega (arith, low c.loop-b.b-index)))

pub returns : goal.returns
returns g c =
    c.loop-b.invariant.0 ∙ ap number (take_all _ _ c.loop-b-test.false ∙ part_sliced _ _ _)
