-- `seal::seal_request` meets its contract. Assumes nothing.
use Rattle.std.specs.Prelude.{Some}
use mathlib.Core.Path.{ap}
use mathlib.Core.Path.{sym, ◌∙◌}
use Rattle.seal.specs.Buffer.{sealed_as, request_in}
use Rattle.seal.proofs.seal_request.Goals as goal

pub returns-then-not-has_room : goal.returns-then-not-has_room
unfolding sealed_as request_in
returns-then-not-has_room c =
    let no = sym c.has_room.ensures ∙ c.if-not-has_room.true in
    record { value = rw no; out_after = rw no }

pub close-requires : goal.close-requires
close-requires c = sym c.has_room.ensures ∙ c.if-not-has_room.false

pub returns : goal.returns
unfolding sealed_as request_in
returns c =
    let yes = sym c.has_room.ensures ∙ c.if-not-has_room.false in
    record { value = rw yes (ap Some c.close.ensures.value); out_after = rw yes c.close.ensures.out_after }
