-- `text::print::say_hex` meets its contract. Assumes nothing.
use mathlib.Core.Path.{ap, ◌∙◌}
use native.Mathlib.Omega.{arith}
use lib.ListN.{length}
use Rattle.octets.proofs.Puts.{put-length}
use Rattle.text.proofs.Printing.{hex-line-length, hex-line-put}
use Rattle.text.proofs.print.say_hex.Goals as goal

pub put_hex-requires : goal.put_hex-requires
put_hex-requires c = omega (arith, c.requires, hex-line-length c.args.s.now)

pub bounds-out-end : goal.bounds-out-end
bounds-out-end c =
    omega (arith, c.requires, hex-line-length c.args.s.now, ap length c.put_hex.ensures ∙ put-length _ _ _)

pub returns : goal.returns
returns c =
    let a = c.args in
    record { count-is = omega (arith, hex-line-length a.s.now); output-is = hex-line-put a.s.now a.out.now _ c.put_hex.ensures }
