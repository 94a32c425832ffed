-- `typed::sizes_in` meets its contract: what the check finds alone too, said such that an edit falls at the place. Assumes nothing.
use Rattle.typed.proofs.Telling.{sizes-told}
use Rattle.typed.proofs.sizes_in.Goals as goal

pub returns : goal.returns
returns c = sizes-told _ _ _ _ c.if-sent-ne6.false c.get16.ensures c.get16-2.ensures c.get16-3.ensures
