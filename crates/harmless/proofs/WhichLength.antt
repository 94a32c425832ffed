-- What an installer is told of a length (document 02, i), in the numbers for C: a number that the box's call or the reader's gives is one of
-- the four exactly where the table gives it. Assumes nothing.
use Rattle.std.specs.Prelude.{Result, Ok, Err}
use Prim.Native.Nat.{ℕ, ◌≤◌}
use mathlib.Core.Path.{◌≡◌, refl, ◌∙◌}
use mathlib.Core.Bool.{cond, ◌&&◌}
use mathlib.Core.List.{List}
use mathlib.Core.Option.{none, some}
use native.Mathlib.Omega.{arith}
use lib.Dec.{leb}
use borrow.Author.Tests.{ne_eqb}
use Rattle.frame.specs.declared.Refusal.{Refusal}
use Rattle.frame.specs.declared.Way.TheVariants.{Request as ToBox, Reply as FromBox}
use Rattle.frame.specs.Shape.{reply_room}
use Rattle.frame.specs.Finding.{Finding, refused, found, number_in}
use Rattle.frame.specs.WhichLength.{which_of, of_length}
use Rattle.rules.specs.declared.Seen.TheVariants.{Ignored, Lost, Recorded}
use Rattle.rules.specs.Box.{frame}
use Rattle.store.specs.Sound.{sound}
use Rattle.events.specs.declared.Answer.{Answer}
use Rattle.requests.specs.declared.Request.{Request}
use Rattle.reader.specs.declared.Told.{Told}
use Rattle.reader.specs.Reader.{read_as}
use Rattle.demands.specs.Answers.{heard, number_heard}
use Rattle.demands.proofs.WhichLength.{box-tells, reader-tells}
use Rattle.depot_c.specs.Coded.{code_of, CalledAs}
use Rattle.host_c.specs.Coded.{read_code}

-- the numbers of other answers are none of the four
beyond : (n : ℕ) → 64 ≤ n → of_length (some n) ≡ none
beyond n h = rw (ne_eqb n 3 (omega arith), ne_eqb n 31 (omega arith), ne_eqb n 32 (omega arith), ne_eqb n 33 (omega arith))

answer-number : (a : Result Answer Refusal) (out : List ℕ) → of_length (some (code_of a)) ≡ of_length (number_heard (heard a out))
answer-number (Err r) out = refl
answer-number (Ok (Answer.Reply n)) out = beyond (code_of (Ok (Answer.Reply n))) (omega arith)
answer-number (Ok (Answer.Sighted (Ignored n))) out = beyond (code_of (Ok (Answer.Sighted (Ignored n)))) (omega arith)
answer-number (Ok (Answer.Sighted Lost)) out = refl
answer-number (Ok (Answer.Sighted Recorded)) out = refl
answer-number (Ok Answer.Done) out = refl

pub frame-as-tells : (f : List ℕ) (room : ℕ) (s out : List ℕ) (n : ℕ) (s' out' : List ℕ) → CalledAs (frame f room) s out n s' out'
    → of_length (some n) ≡ cond (sound s && leb reply_room room) (which_of ToBox f) none
frame-as-tells f room s out n s' out' c = rw c.code (answer-number c.answer out') ∙ box-tells f room s out c.answer s' out' c.called

reading-number : (x : Finding Told) → of_length (some (read_code x)) ≡ of_length (number_in x)
reading-number (refused n) = refl
reading-number (found t) = beyond (read_code (found t)) (omega arith)

pub read-as-tells : (q : Request) (s : List ℕ) (n : ℕ) → n ≡ read_code (read_as q s) → of_length (some n) ≡ which_of FromBox s
read-as-tells q s n e = rw e (reading-number (read_as q s)) ∙ reader-tells q s
