-- `fields::sizes` meets its contract: the room, then what was told. Assumes nothing.
use Rattle.octets.specs.Tests.{first}
use Rattle.typed.specs.Typed.{other_length, sizes_from, sizes_told}
use Rattle.fields.specs.Fields.{sizes_fields}
use Rattle.fields.proofs.Told.{turned}
use Rattle.fields.proofs.sizes.Goals as goal

pub returns : goal.returns
unfolding sizes_told
returns c =
    let s = c.args.sent.now in
    c.put.ensures (other_length 6 s) (sizes_fields (sizes_from s)) (turned sizes_fields (first (other_length 6 s)) (sizes_from s) _ _ c.map.ensures.cases c.sizes_in.ensures)
