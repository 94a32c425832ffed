-- What a well-formed frame leaves at its desk: the rules' reply at the start of the output, and a store that says the rules' desk.
-- Assumes nothing.
use Rattle.std.specs.Prelude.{ℕ, ◌≡◌, List, length}
use Rattle.octets.specs.Parts.{put}
use Rattle.rules.specs.Box.{AtDesk, reply, request, served}
use Rattle.keeping.specs.Kept.{kept, Says}

-- what the rules have the desk do that the frame names
abbrev pub served_by : List ℕ → List ℕ → AtDesk
served_by f s = served f (kept (request f).address s)

pub record Replied (f s out : List ℕ) (n : ℕ) (s' out' : List ℕ) : Type 0 where
  pub sent : List ℕ
  pub sent_is : (served_by f s).answer ≡ reply sent
  pub count-is : n ≡ length sent
  pub output-is : out' ≡ put 0 sent out
  pub says : Says (request f).address (served_by f s).desk s s'
