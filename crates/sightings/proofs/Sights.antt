-- A sighting at a desk: what the store says where it was ignored, lost or recorded. Assumes nothing.
use Prim.Native.Nat.{ℕ, ◌^◌, ◌≤◌, ◌<◌}
use mathlib.Core.Path.{◌≡◌, ap, ◌∙◌}
use mathlib.Core.Bool.{true, false}
use mathlib.Core.List.{List}
use lib.ListN.{length}
use borrow.Author.Tests.{lt-ltb, le-ltb}
use Rattle.octets.specs.Each.{Octet}
use Rattle.std.specs.Prelude.{Some}
use Rattle.locks.specs.Locks.{found_in, locked}
use Rattle.table.specs.Entries.{desks, share}
use Rattle.rules.specs.declared.Seen.{Seen}
use Rattle.rules.specs.declared.Seen.TheVariants.{Ignored, Lost, Recorded}
use Rattle.rules.specs.Desk.{with_table}
use Rattle.rules.specs.Records.{record_of, with_record}
use Rattle.rules.specs.Sighting.{seen_as, after_seen}
use Rattle.rules.specs.Box.{sighted}
use Rattle.rules.specs.Legal.{record_legal, desk_legal}
use Rattle.rules.proofs.Facts.{record-test, desk-test}
use Rattle.rules.proofs.Tables.{record-legal}
use Rattle.rules.proofs.Legality.{sighted-legal}
use Rattle.store.specs.Sound.{sound}
use Rattle.doings.specs.declared.Doing.TheVariants.{Mark, Lock}
use Rattle.doings.specs.Doing.{on_table, done_by}
use Rattle.keeping.specs.Kept.{kept, Says}
use Rattle.keeping.proofs.Rows.{kept-legal, unchanged, says_then, kept-now}
use Rattle.sightings.specs.Sighted.{Sighted}

-- r is the record of a sighting that is recorded: it may be added, then the UID may be locked, and that ends the sighting
pub record Recording (d uid mask : ℕ) (r s : List ℕ) : Type 0 where
  pub legal : record_legal r ≡ true
  pub locks : (s' : List ℕ) → Says d (on_table (with_record r) (kept d s)) s s' → desk_legal (done_by (Lock uid) (kept d s')) ≡ true
  pub ends : (s' s'' : List ℕ) → Says d (on_table (with_record r) (kept d s)) s s' → Says d (done_by (Lock uid) (kept d s')) s' s'' → Sighted d uid mask Recorded s s''

module _ (s : List ℕ) (e : sound s ≡ true) (d : ℕ) (h : d < desks) (uid mask : ℕ) where
  pub ignored : (at left : ℕ) → found_in uid (kept d s).locks ≡ Some (at, left) → Sighted d uid mask (Ignored left) s s
  unfolding seen_as after_seen
  ignored at left q = record { seen-is = rw q; says = unchanged s e d h }

  module _ (small : uid < 2 ^ 64) (octet : Octet mask) (free : locked uid (kept d s).locks ≡ false) where
    after-legal : (w : Seen) → w ≡ seen_as uid (kept d s) → desk_legal (after_seen w uid mask (kept d s)) ≡ true
    unfolding sighted
    after-legal w q = rw q (desk-test _ (sighted-legal uid mask (kept d s) small octet (kept-legal s e d h)))

    -- ---- lost

    module _ (full : share ≤ length (kept d s).table.held) where
      seen-lost : Lost ≡ seen_as uid (kept d s)
      unfolding seen_as
      seen-lost = rw (free, le-ltb (length (kept d s).table.held) share full)

      pub mark-legal : desk_legal (done_by Mark (kept d s)) ≡ true
      unfolding after_seen
      mark-legal = after-legal Lost seen-lost

      pub lost : (s' : List ℕ) → Says d (done_by Mark (kept d s)) s s' → Sighted d uid mask Lost s s'
      unfolding after_seen
      lost s' a = record { seen-is = seen-lost; says = a }

    -- ---- recorded

    module _ (few : length (kept d s).table.held < share) (r : List ℕ) (q : r ≡ record_of uid (kept d s).timer mask) where
      seen-recorded : Recorded ≡ seen_as uid (kept d s)
      unfolding seen_as
      seen-recorded = rw (free, lt-ltb (length (kept d s).table.held) share few)

      -- the lock after the record leaves the desk that the rules say
      then-locked : (s' : List ℕ) → Says d (on_table (with_record r) (kept d s)) s s' → done_by (Lock uid) (kept d s') ≡ after_seen Recorded uid mask (kept d s)
      unfolding after_seen with_table
      then-locked s' a = ap (done_by (Lock uid)) (kept-now d _ s s' h a) ∙ rw q

      pub recording : Recording d uid mask r s
      recording = record {
        legal = rw q (record-test _ (record-legal uid (kept d s).timer mask (kept-legal s e d h).timer octet));
        locks = λ s' a. rw (then-locked s' a) (after-legal Recorded seen-recorded);
        ends = λ s' s'' a b. record { seen-is = seen-recorded; says = says_then d _ _ s s' s'' a (rw (then-locked s' a) at b) };
      }
