-- Which test of a frame or a sighting refuses it, as the code finds out. Assumes nothing.
use Prim.Native.Nat.{ℕ, ◌<◌, ◌≤◌}
use mathlib.Core.Path.{◌≡◌}
use mathlib.Core.List.{List, [], ◌∷◌}
use mathlib.Core.Option.{none, some}
use borrow.Author.Tests.{lt-ltb, le-ltb, le-leb, lt-leb, eq-eqb, ne_eqb}
use Rattle.octets.specs.Tests.{first}
use Rattle.frame.specs.declared.Way.TheVariants.{Request}
use Rattle.frame.specs.declared.Frame.{Frame}
use Rattle.frame.specs.Shape.{reply_room}
use Rattle.frame.specs.Finding.{refused, found}
use Rattle.frame.specs.Judged.{faults, judged}
use Rattle.octets.proofs.Tests.{first-none, first-given}
use Rattle.frame.proofs.Verdict.{sound-parts, sound-first, refused-first}
use Rattle.table.specs.Entries.{desks}
use Rattle.rules.specs.Box.{request, no_desk, frame_refusals, sighting_refusals}

-- ---- a frame

module _ (f : List ℕ) (room : ℕ) where
  pub small-buffer : room < reply_room → first (frame_refusals f room) ≡ some 2
  unfolding frame_refusals first
  small-buffer h = rw (lt-ltb room reply_room h)

  module _ (enough : reply_room ≤ room) where
    pub judge-refused : (n : ℕ) → judged Request f ≡ refused n → first (frame_refusals f room) ≡ some n
    unfolding frame_refusals first
    judge-refused n e = rw (le-ltb room reply_room enough) (first-given n (faults Request f) _ (refused-first Request f n e))

    module _ (p : Frame) (e : judged Request f ≡ found p) where
      pub no-desk : desks ≤ p.address → first (frame_refusals f room) ≡ some 5
      unfolding frame_refusals first request
      no-desk h = rw (le-ltb room reply_room enough, first-none (faults Request f) ((5, no_desk (request f).address) ∷ []) (sound-first Request f p e), ← sound-parts Request f p e, le-leb desks p.address h)

      pub accepted : p.address < desks → first (frame_refusals f room) ≡ none
      unfolding frame_refusals first request
      accepted h = rw (le-ltb room reply_room enough, first-none (faults Request f) ((5, no_desk (request f).address) ∷ []) (sound-first Request f p e), ← sound-parts Request f p e, lt-leb desks p.address h)

-- ---- a sighting

module _ (n mask : ℕ) where
  pub sighting-desk : desks ≤ n → first (sighting_refusals n mask) ≡ some 5
  unfolding sighting_refusals first
  sighting-desk h = rw (le-leb desks n h)

  pub sighting-mask : n < desks → mask ≡ 0 → first (sighting_refusals n mask) ≡ some 6
  unfolding sighting_refusals first
  sighting-mask h e = rw (lt-leb desks n h, eq-eqb mask 0 e)

  pub sighting-accepted : n < desks → (mask ≡ 0 → ⊥) → first (sighting_refusals n mask) ≡ none
  unfolding sighting_refusals first
  sighting-accepted h e = rw (lt-leb desks n h, ne_eqb mask 0 e)
