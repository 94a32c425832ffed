-- `locklegal::each_legal` meets its contract. Assumes nothing.
use Rattle.std.proofs.Common.{◌&&◌, leb, ◌∙◌, rules, tests}
use Rattle.std.proofs.lemmas.Iterator.{YieldsList-from_slice}
use Rattle.std.proofs.lemmas.Iterator.Search.{all_from_yields_List}
use Rattle.locklegal.proofs.Covering.{all-legal}
use Rattle.locklegal.proofs.each_legal.Goals as goal

pub returns : goal.returns
returns c =
    let a = c.args in
    all_from_yields_List (λ l. leb 1 l.left && leb l.left a.valid) _ _ _ c.all.ensures.ran (YieldsList-from_slice a.locks.now c.iter.ensures.rest) (λ x b q k. (search rules, search (rules, tests))) ∙ all-legal a.valid a.locks.now
