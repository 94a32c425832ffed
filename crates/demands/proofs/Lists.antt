-- The numbers that each call can give, exactly and in their order: frames 1, 2, 3, 31, 32, 33, 4, 5, sightings 1, 5, 6, ticks 1, the test of
-- a store 1, a fresh store 1, the maker 5, 6, 7, the reader 3, 31, 32, 33, 4, 8. Assumes nothing.
use Prim.Native.Nat.{ℕ}
use mathlib.Core.Path.{◌≡◌, refl}
use mathlib.Core.Bool.{true}
use mathlib.Core.List.{List, [], ◌∷◌}
use Rattle.frame.specs.Refusal.{numbers_of, rises, in_order}
use Rattle.frame.specs.Judged.{faults}
use Rattle.rules.specs.Box.{Event, frame, sighting, tick, frame_refusals, sighting_refusals}
use Rattle.depot.specs.Called.{test_refusals, fresh_refusals}
use Rattle.requests.specs.declared.Request.{Request}
use Rattle.maker.specs.Maker.{maker_refusals}
use Rattle.reader.specs.Reader.{reader_refusals}
use Rattle.demands.specs.Answers.{refusals_of, tests_of}

pub frame-numbers : (s f : List ℕ) (room : ℕ) → numbers_of (tests_of s (frame f room)) ≡ 1 ∷ 2 ∷ 3 ∷ 31 ∷ 32 ∷ 33 ∷ 4 ∷ 5 ∷ []
unfolding tests_of test_refusals refusals_of frame_refusals faults
frame-numbers s f room = refl

pub sighting-numbers : (s : List ℕ) (n uid mask : ℕ) → numbers_of (tests_of s (sighting n uid mask)) ≡ 1 ∷ 5 ∷ 6 ∷ []
unfolding tests_of test_refusals refusals_of sighting_refusals
sighting-numbers s n uid mask = refl

pub tick-numbers : (s : List ℕ) → numbers_of (tests_of s tick) ≡ 1 ∷ []
unfolding tests_of test_refusals refusals_of
tick-numbers s = refl

pub test-numbers : (s : List ℕ) → numbers_of (test_refusals s) ≡ 1 ∷ []
unfolding test_refusals
test-numbers s = refl

pub fresh-numbers : (s : List ℕ) → numbers_of (fresh_refusals s) ≡ 1 ∷ []
unfolding fresh_refusals
fresh-numbers s = refl

pub maker-numbers : (q : Request) (room : ℕ) → numbers_of (maker_refusals q room) ≡ 5 ∷ 6 ∷ 7 ∷ []
unfolding maker_refusals
maker-numbers q room = refl

pub reader-numbers : (q : Request) (s : List ℕ) → numbers_of (reader_refusals q s) ≡ 3 ∷ 31 ∷ 32 ∷ 33 ∷ 4 ∷ 8 ∷ []
unfolding reader_refusals faults
reader-numbers q s = refl

-- ---- their order: `test_order`; where none of 31, 32, 33 is among them, they rise

pub event-in-order : (s : List ℕ) (e : Event) → in_order (numbers_of (tests_of s e)) ≡ true
event-in-order s (frame f room) = rw (frame-numbers s f room)
event-in-order s (sighting n uid mask) = rw (sighting-numbers s n uid mask)
event-in-order s tick = rw (tick-numbers s)

pub reader-in-order : (q : Request) (s : List ℕ) → in_order (numbers_of (reader_refusals q s)) ≡ true
reader-in-order q s = rw (reader-numbers q s)

pub sighting-rises : (s : List ℕ) (n uid mask : ℕ) → rises (numbers_of (tests_of s (sighting n uid mask))) ≡ true
sighting-rises s n uid mask = rw (sighting-numbers s n uid mask)

pub tick-rises : (s : List ℕ) → rises (numbers_of (tests_of s tick)) ≡ true
tick-rises s = rw (tick-numbers s)

pub test-rises : (s : List ℕ) → rises (numbers_of (test_refusals s)) ≡ true
test-rises s = rw (test-numbers s)

pub fresh-rises : (s : List ℕ) → rises (numbers_of (fresh_refusals s)) ≡ true
fresh-rises s = rw (fresh-numbers s)

pub maker-rises : (q : Request) (room : ℕ) → rises (numbers_of (maker_refusals q room)) ≡ true
maker-rises q room = rw (maker-numbers q room)
