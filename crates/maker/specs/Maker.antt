-- What the maker owes its reader. Assumes nothing.
use Rattle.std.specs.Prelude.{ℕ, Bool, not, List, [], ◌∷◌, length, ltb, Result}
use Rattle.octets.specs.Tests.{first}
use Rattle.frame.specs.declared.Refusal.{Refusal}
use Rattle.rules.specs.Box.{no_desk}
use Rattle.rules.specs.Output.{Wrote}
use Rattle.requests.specs.declared.Request.{Request}
use Rattle.requests.specs.Request.{in_range, request_frame}

-- the maker can meet 5, 6, 7, in rising number: no such desk; a value out of range; no room for the frame
unfoldable pub maker_refusals : Request → ℕ → List (ℕ × Bool)
maker_refusals q room = (5, no_desk q.desk) ∷ (6, not (in_range q)) ∷ (7, ltb room (length (request_frame q))) ∷ []

-- refused and nothing written; or the frame at the start of the output, and the octets after it stay
abbrev pub Requested : Request → List ℕ → Result ℕ Refusal → List ℕ → Type 0
Requested q out a out' = Wrote (first (maker_refusals q (length out))) (request_frame q) out a out'
