-- What a sound store says is legal. Assumes nothing.
use Prim.Native.Nat.{ℕ, ◌≤◌, ◌<◌}
use mathlib.Core.Path.{◌≡◌}
use mathlib.Core.List.{List}
use mathlib.Core.Bool.{true}
use native.Mathlib.Omega.{arith}
use lib.ListN.{length}
use Rattle.octets.specs.Numbers.{number}
use Rattle.octets.specs.Areas.{upto}
use Rattle.locks.specs.Locks.{most_locks}
use Rattle.lockarea.proofs.Stored.{locks-in-length}
use Rattle.table.specs.Entries.{desks, share, records_of}
use Rattle.rules.specs.Box.{desk_at}
use Rattle.rules.specs.Legal.{box_legal}
use Rattle.rules.proofs.Facts.{DeskLegal, box-test}
use Rattle.rules.proofs.Legality.{desk-in-box}
use Rattle.store.specs.Layout.{row_of}
use Rattle.store.specs.Rows.{count_field, locks_field, field, fields}
use Rattle.store.specs.View.{desk_of, desk_in, in_use, view}
use Rattle.store.specs.Sound.{sound}
use Rattle.store.proofs.Changes.{Sound, sound-facts}
use Rattle.views.proofs.Anew.{desk-is}

pub legal-at : (s : List ℕ) → Sound s → (d : ℕ) → DeskLegal (desk_at (view s) d)
legal-at s f d = desk-in-box (view s) d f.box

pub view-legal : (s : List ℕ) → sound s ≡ true → box_legal (view s) ≡ true
view-legal s e = box-test (view s) (sound-facts s e).box

pub desk-of-view : (s : List ℕ) (d : ℕ) → sound s ≡ true → DeskLegal (desk_at (view s) d)
desk-of-view s d e = legal-at s (sound-facts s e) d

legal-row : (s : List ℕ) → Sound s → (d : ℕ) → d < desks → DeskLegal (desk_in (row_of d s) (records_of d (in_use s)))
legal-row s f d h = rw (desk-is s f d h) at (legal-at s f d)

-- at most 64 records a desk, and at most 64 locks
pub few-records : (s : List ℕ) → Sound s → (d : ℕ) → d < desks → length (records_of d (in_use s)) ≤ share
unfolding desk_of
few-records s f d h = (legal-row s f d h).table.few

pub few-locks : (s : List ℕ) → Sound s → (d : ℕ) → d < desks → number (field (row_of d s) count_field) ≤ most_locks
unfolding desk_of fields upto
few-locks s f d h =
    let row = row_of d s in
    omega (arith, (legal-row s f d h).locks.few, locks-in-length (number (field row count_field)) (field row locks_field))
