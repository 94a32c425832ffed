-- What a sighting and a tick leave: the rules' outcome, and a sound store that says the rules' desks. Assumes nothing.
use Rattle.std.specs.Prelude.{ℕ, ◌≡◌, true, List, map}
use Rattle.rules.specs.declared.Seen.{Seen}
use Rattle.rules.specs.Sighting.{seen_as, after_seen, ticked}
use Rattle.store.specs.View.{view}
use Rattle.store.specs.Sound.{sound}
use Rattle.store.specs.Untouched.{Untouched}
use Rattle.keeping.specs.Kept.{kept, Says}

pub record Sighted (d uid mask : ℕ) (seen : Seen) (s s' : List ℕ) : Type 0 where
  pub seen-is : seen ≡ seen_as uid (kept d s)
  pub says : Says d (after_seen seen uid mask (kept d s)) s s'

-- every desk is ticked; the areas stay where they lie, and the octets outside them as they are
pub record Ticked (s s' : List ℕ) : Type 0 where
  pub still : sound s' ≡ true
  pub view-is : view s' ≡ map ticked (view s)
  pub alone : Untouched s s'
