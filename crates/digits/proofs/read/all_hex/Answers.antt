-- `digits::read::all_hex` meets its contract. Assumes nothing.
use Rattle.std.proofs.Common.{rules}
use Rattle.std.proofs.lemmas.Iterator.{YieldsList-from_slice}
use Rattle.std.proofs.lemmas.Iterator.Search.{all_from_yields_List}
use Rattle.digits.specs.Digits.{is_hex}
use Rattle.digits.proofs.Values.{all_from}
use Rattle.digits.proofs.read.all_hex.Goals as goal

pub returns : goal.returns
returns c =
    all_from is_hex c.args.s.now _ (all_from_yields_List is_hex _ _ c.all.result c.all.ensures.ran (YieldsList-from_slice c.args.s.now cc) (λ x b q k. search rules))
