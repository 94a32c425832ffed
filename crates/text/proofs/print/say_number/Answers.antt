-- `text::print::say_number` meets its contract. Assumes nothing.
use mathlib.Core.Path.{◌∙◌}
use native.Mathlib.Omega.{arith}
use lib.ListN.{length-set}
use Rattle.digits.proofs.Decimals.{decimal-length}
use Rattle.text.proofs.Printing.{number-line-length, number-line-put}
use Rattle.text.proofs.print.say_number.Goals as goal

pub shape_of-out : goal.shape_of-out
shape_of-out c =
    simp length-set (c.put_decimal.auto.out ∙ c.copy_to.auto.s)

pub returns : goal.returns
returns c =
    let a = c.args in
    record {
      count-is = omega (arith, number-line-length a.word.now a.n, decimal-length a.n, c.put_decimal.ensures.1);
      output-is = number-line-put a.word.now a.out.now _ _ a.n _ c.copy_to.ensures c.put_decimal.ensures.1 c.put_decimal.ensures.2;
    }
