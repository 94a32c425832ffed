-- `fields::timer` meets its contract: the room, then what was told. Assumes nothing.
use Rattle.octets.specs.Tests.{first}
use Rattle.timer.specs.Clock.{timer_from}
use Rattle.typed.specs.Typed.{other_length, timer_told}
use Rattle.fields.specs.Fields.{timer_fields}
use Rattle.fields.proofs.Told.{turned}
use Rattle.fields.proofs.timer.Goals as goal

pub returns : goal.returns
unfolding timer_told
returns c =
    let s = c.args.sent.now in
    c.put.ensures (other_length 4 s) (timer_fields (timer_from s)) (turned timer_fields (first (other_length 4 s)) (timer_from s) _ _ c.map.ensures.cases c.timer_in.ensures)
