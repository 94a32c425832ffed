-- `sightings::sight` meets its contract: ignored where a lock is found, with the ticks that it has left. Assumes nothing.
use mathlib.Core.Path.{◌≡◌, sym, ap, ◌∙◌}
use Rattle.std.specs.Prelude.{is_some}
use Rattle.locks.specs.Locks.{found_in}
use Rattle.keeping.specs.Kept.{kept}
use Rattle.sightings.proofs.Sights.{ignored}
use Rattle.sightings.proofs.sight.Goals as goal
use Rattle.sightings.proofs.sight.Goals.{After-lock_of}

-- what was found, among the locks of the desk
told : (c : After-lock_of)
    → found_in c.args.uid (kept c.args.d.number c.args.s.now).locks ≡ c.lock_of.result
told c = sym c.lock_of.ensures

pub unlocked-requires : goal.unlocked-requires
unlocked-requires c =
    (c.requires, ap is_some (told (goal.at.unlocked-requires c).After-lock_of ∙ c.in-None.is))

pub returns-in-Some : goal.returns-in-Some
returns-in-Some c =
    ignored c.args.s.now c.requires c.args.d.number c.args.d.low c.args.uid c.args.mask _ _ (told (goal.at.returns-in-Some c).After-lock_of ∙ c.in-Some.is)
