-- From what was done to what it owes: one law for each way out. Assumes nothing.
use Rattle.std.specs.Prelude.{Ok, Err}
use Prim.Native.Nat.{ℕ, ◌≤◌, ◌<◌}
use mathlib.Core.Path.{◌≡◌, refl, ap}
use mathlib.Core.List.{List}
use mathlib.Core.Option.{none, some}
use lib.ListN.{length}
use Rattle.octets.specs.Tests.{first}
use Rattle.frame.specs.declared.Way.TheVariants.{Request}
use Rattle.frame.specs.declared.Frame.{Frame}
use Rattle.frame.proofs.Numbers.{refuses}
use Rattle.frame.specs.declared.Refusal.{Refusal}
use Rattle.frame.specs.Shape.{reply_room}
use Rattle.frame.specs.Refusal.{number_of}
use Rattle.frame.specs.Finding.{found}
use Rattle.frame.specs.Judged.{judged}
use Rattle.table.specs.Entries.{desks}
use Rattle.rules.specs.Box.{frame, sighting, tick, sighted, placed, unless_refused, frame_refusals, sighting_refusals, step}
use Rattle.replying.specs.Replied.{Replied}
use Rattle.sightings.specs.Sighted.{Sighted as DeskSighted, Ticked}
use Rattle.rules.specs.declared.Seen.{Seen}
use Rattle.rules.proofs.Refusals.{accepted}
use Rattle.events.specs.declared.Answer.TheVariants.{Reply, Sighted, Done}
use Rattle.events.specs.Happened.{Happened}

-- ---- refused

pub frame_refused : (f : List ℕ) (room : ℕ) (r : Refusal) (s out : List ℕ) → first (frame_refusals f room) ≡ some (number_of r) → Happened (frame f room) s out (Err r) s out
unfolding step unless_refused
frame_refused f room r s out e = record { ended = rw e (refuses Err r, (refl, refl)) }

pub sighting-refused : (n uid mask : ℕ) (r : Refusal) (s out : List ℕ) → first (sighting_refusals n mask) ≡ some (number_of r) → Happened (sighting n uid mask) s out (Err r) s out
unfolding step unless_refused
sighting-refused n uid mask r s out e = record { ended = rw e (refuses Err r, (refl, refl)) }

-- ---- answered

-- a reply stands at the start of the output
pub frame-replied : (f s s' out out' : List ℕ) (p : Frame) (n : ℕ) → judged Request f ≡ found p → reply_room ≤ length out → p.address < desks
    → Replied f s out n s' out' → Happened (frame f (length out)) s out (Ok (Reply n)) s' out'
unfolding step unless_refused placed
frame-replied f s s' out out' p n is room low y =
    record {
      ended =
          rw (accepted f (length out) room p is low, y.sent_is)
          (ap (λ (x : ℕ). Ok (Reply x)) y.count-is, y.output-is, record { still = y.says.still; says = y.says.view-is; alone = y.says.alone });
    }

pub sighting-answered : (n uid mask : ℕ) (w : Seen) (s s' out : List ℕ) → first (sighting_refusals n mask) ≡ none → DeskSighted n uid mask w s s'
    → Happened (sighting n uid mask) s out (Ok (Sighted w)) s' out
unfolding step unless_refused placed sighted
sighting-answered n uid mask w s s' out e y =
    record { ended = rw (e, ← y.seen-is) (refl, refl, record { still = y.says.still; says = y.says.view-is; alone = y.says.alone }) }

pub ticked-answered : (s s' out : List ℕ) → Ticked s s' → Happened tick s out (Ok Done) s' out
unfolding step
ticked-answered s s' out y = record { ended = (refl, refl, record { still = y.still; says = y.view-is; alone = y.alone }) }
