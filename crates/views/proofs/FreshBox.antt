-- The fresh store is sound, and what it says is the fresh box. Assumes nothing.
use mathlib.Core.Path.{◌≡◌}
use mathlib.Core.Bool.{true}
use Rattle.rules.specs.Box.{fresh_box}
use Rattle.rules.proofs.Legality.{fresh-facts}
use Rattle.fresh.specs.Fresh.{fresh_store}
use Rattle.store.specs.View.{view}
use Rattle.store.specs.Sound.{sound}
use Rattle.views.proofs.EveryBox.{stored-sound, stored-says, fresh-stored}

pub fresh-sound : sound fresh_store ≡ true
fresh-sound = rw fresh-stored (stored-sound fresh_box fresh-facts)

pub fresh-view : view fresh_store ≡ fresh_box
fresh-view = rw fresh-stored (stored-says fresh_box fresh-facts)
