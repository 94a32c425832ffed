-- A line is answered: store, reply buffer and output before, how much is printed, and the three after. Assumes nothing.
use Rattle.std.specs.Prelude.{ℕ, ◌≡◌, List, [], length, Result}
use Rattle.frame.specs.declared.Refusal.{Refusal}
use Rattle.rules.specs.Box.{Event}
use Rattle.events.specs.declared.Answer.{Answer}
use Rattle.depot.specs.Called.{Called}
use Rattle.text.specs.Listing.{Line, frame, sighting, tick, not_read, not_read_line, printed, Printed}

abbrev pub Answers : Line → List ℕ → List ℕ → List ℕ → ℕ → List ℕ → List ℕ → List ℕ → Type 0
Answers (frame f) s reply out n s' reply' out' =
    (a : Result Answer Refusal) × Called (Event.frame f (length reply)) s reply a s' reply' × Printed (printed a reply') out n out'
Answers (sighting desk uid mask) s reply out n s' reply' out' =
    (a : Result Answer Refusal) × Called (Event.sighting desk uid mask) s [] a s' [] × (reply' ≡ reply) × Printed (printed a reply) out n out'
Answers tick s reply out n s' reply' out' =
    (a : Result Answer Refusal) × Called Event.tick s [] a s' [] × (reply' ≡ reply) × Printed (printed a reply) out n out'
Answers not_read s reply out n s' reply' out' = (s' ≡ s) × (reply' ≡ reply) × Printed not_read_line out n out'

pub record Answered (l : Line) (s reply out : List ℕ) (n : ℕ) (s' reply' out' : List ℕ) : Type 0 where
  pub answers : Answers l s reply out n s' reply' out'
