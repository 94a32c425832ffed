-- `pieces::put_shown` meets its contract. Assumes nothing.
use native.Mathlib.Omega.{arith}
use Rattle.digits.proofs.Pairs.{hex-length}
use Rattle.pieces.proofs.Widths.{shown-hex, shown-raw}
use Rattle.pieces.proofs.put_shown.Goals as goal

pub put_hex-requires : goal.put_hex-requires
put_hex-requires c =
    omega (arith, rw (shown-hex _ _ c.if-usage-eq2.true) at c.requires, hex-length c.args.s.now)

pub overflow_add-result : goal.overflow_add-result
overflow_add-result c =
    omega (arith, rw (shown-hex _ _ c.if-usage-eq2.true) at c.requires, hex-length c.args.s.now)

pub returns-then-usage-eq2 : goal.returns-then-usage-eq2
returns-then-usage-eq2 c =
    let a = c.args in
    let e = shown-hex a.usage a.s.now c.if-usage-eq2.true in
    (rw e (omega (arith, hex-length a.s.now)), rw e c.put_hex.ensures)

pub put_raw-requires : goal.put_raw-requires
put_raw-requires c = rw (shown-raw _ _ c.if-usage-eq2.false) at c.requires

pub returns-else-usage-eq2 : goal.returns-else-usage-eq2
returns-else-usage-eq2 c = rw (shown-raw _ _ c.if-usage-eq2.false) c.put_raw.ensures
