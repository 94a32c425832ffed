-- What an installer is told of a length (document 02, i), by the calls themselves: the number that the table of `which_length` gives, from the
-- number of octets and the first three of them; and one of the four numbers for nothing else. Assumes nothing.
use Rattle.std.specs.Prelude.{Result}
use Prim.Native.Nat.{ℕ}
use mathlib.Core.Path.{◌≡◌, refl, ap, ◌∙◌}
use mathlib.Core.Bool.{Bool, true, false, cond, not, ◌&&◌}
use mathlib.Core.List.{List, [], ◌∷◌, ◌++◌}
use mathlib.Core.Option.{Option, none, some}
use lib.Dec.{leb}
use native.Mathlib.Decide.{dec_lt}
use native.Mathlib.Omega.{arith}
use borrow.Author.Tests.{lt-ltb, le-ltb, lt-leb, le-leb}
use Rattle.octets.specs.Tests.{first}
use Rattle.octets.proofs.Tests.{first-none, first-given}
use Rattle.frame.specs.declared.Refusal.{Refusal}
use Rattle.frame.specs.declared.Way.TheVariants.{Request as ToBox, Reply as FromBox}
use Rattle.frame.specs.Shape.{reply_room}
use Rattle.frame.specs.Finding.{number_in}
use Rattle.frame.specs.Judged.{faults, parts_of}
use Rattle.frame.specs.WhichLength.{which_of, is_of_length, of_length}
use Rattle.frame.proofs.Finding.{number-found}
use Rattle.frame.proofs.WhichLength.{which-fault}
use Rattle.rules.specs.Box.{frame, request, no_desk, frame_refusals}
use Rattle.store.specs.Sound.{sound}
use Rattle.events.specs.declared.Answer.{Answer}
use Rattle.depot.specs.Called.{Called, test_refusals}
use Rattle.requests.specs.declared.Request.{Request}
use Rattle.reader.specs.Reader.{told_of, answers_to, reader_refusals, read_as}
use Rattle.demands.specs.Answers.{heard, number_heard, refusals_of, tests_of}
use Rattle.demands.proofs.Listed.{first-heard}

-- other tests behind those of the length
behind : (ts us : List (ℕ × Bool)) → of_length (first us) ≡ none → of_length (first (ts ++ us)) ≡ of_length (first ts)
behind ts us h = go (first ts) refl
  where
    go : (o : Option ℕ) → first ts ≡ o → of_length (first (ts ++ us)) ≡ of_length o
    go none e = ap of_length (first-none ts us e) ∙ h
    go (some n) e = ap of_length (first-given n ts us e)

a-number : (k : ℕ) (b : Bool) → is_of_length k ≡ false → of_length (first ((k, b) ∷ [])) ≡ none
unfolding first
a-number k true h = rw h
a-number k false h = refl

-- ---- the host's reader

pub reader-tells : (q : Request) (s : List ℕ) → of_length (number_in (read_as q s)) ≡ which_of FromBox s
unfolding read_as reader_refusals
reader-tells q s =
    let other = not (answers_to q (parts_of FromBox s) s) in
    ap of_length (number-found (first (reader_refusals q s)) (told_of (parts_of FromBox s) s)) ∙ behind (faults FromBox s) ((8, other) ∷ []) (a-number 8 other refl)
    ∙ which-fault FromBox s

-- ---- the box

frame-tells : (f : List ℕ) (room : ℕ) → of_length (first (frame_refusals f room)) ≡ cond (leb reply_room room) (which_of ToBox f) none
unfolding frame_refusals first
frame-tells f room =
    elim (dec_lt room reply_room) [
      | yes h ↦ rw (lt-ltb room reply_room h, lt-leb reply_room room h)
      | no h ↦ rw (le-ltb room reply_room (omega arith), le-leb reply_room room (omega arith))
          (behind (faults ToBox f) ((5, no_desk (request f).address) ∷ []) (a-number 5 (no_desk (request f).address) refl) ∙ which-fault ToBox f)
    ]

tests-tell : (s f : List ℕ) (room : ℕ) → of_length (first (tests_of s (frame f room))) ≡ cond (sound s && leb reply_room room) (which_of ToBox f) none
unfolding tests_of test_refusals refusals_of first
tests-tell s f room = go (sound s)
  where
    go : (b : Bool) → of_length (cond (not b) (some 1) (first (frame_refusals f room))) ≡ cond (b && leb reply_room room) (which_of ToBox f) none
    go true = frame-tells f room
    go false = refl

-- whatever the store and the room: with a sound one and enough of it the table's number; else none of the four, since 1 or 2 comes first
pub box-tells : (f : List ℕ) (room : ℕ) (s out : List ℕ) (a : Result Answer Refusal) (s' out' : List ℕ) → Called (frame f room) s out a s' out'
    → of_length (number_heard (heard a out')) ≡ cond (sound s && leb reply_room room) (which_of ToBox f) none
box-tells f room s out a s' out' c = ap of_length (first-heard (frame f room) s out a s' out' c) ∙ tests-tell s f room
