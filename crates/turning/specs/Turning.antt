-- What one octet of an input does, and how an input ends. Assumes nothing.
use Rattle.std.specs.Prelude.{ℕ, ◌+◌, ◌≡◌, cond, List, drop, eqb}
use Rattle.octets.specs.Parts.{put}
use Rattle.text.specs.Whole.{lf}
use Rattle.feeding.specs.declared.Begun.{Begun}
use Rattle.feeding.specs.Feeding.{none_fed, Feeds}
use Rattle.readoff.specs.ReadOff.{ReadOff}

-- what a call carries and what it is lent: the line that is begun and how many octets are written to the output; the octets held of
-- the line, store, reply buffer and output
pub record State : Type 0 where
  pub line : Begun
  pub written : ℕ
  pub held : List ℕ
  pub store : List ℕ
  pub reply : List ℕ
  pub out : List ℕ

abbrev pub lent : Begun → ℕ → List ℕ → List ℕ → List ℕ → List ℕ → State
lent line written held store reply out =
    record { line = line; written = written; held = held; store = store; reply = reply; out = out }

-- a line ends: it is answered behind what is written, and the next one begins
pub record LineEnds (a b : State) : Type 0 where
  pub count : ℕ
  pub rest : List ℕ
  pub answered : ReadOff a.line a.held a.store a.reply (drop a.written a.out) count b.store b.reply rest
  pub out-is : b.out ≡ put a.written rest a.out
  pub written_is : b.written ≡ a.written + count
  pub line-is : b.line ≡ none_fed
  pub held-is : b.held ≡ a.held

-- a line goes on: the octet is fed, and nothing else changes
pub record LineGoesOn (c : ℕ) (a b : State) : Type 0 where
  pub feeds : Feeds c a.line a.held b.line b.held
  pub written_is : b.written ≡ a.written
  pub store_is : b.store ≡ a.store
  pub reply-is : b.reply ≡ a.reply
  pub out-is : b.out ≡ a.out

-- lines end with LF
unfoldable pub Takes : ℕ → State → State → Type 0
Takes c a b = cond (eqb c lf) (LineEnds a b) (LineGoesOn c a b)

-- a last line without LF that is not empty is answered
unfoldable pub Ends : Begun → List ℕ → List ℕ → List ℕ → List ℕ → ℕ → List ℕ → List ℕ → List ℕ → Type 0
Ends line held s reply out n s' reply' out' =
    cond (eqb line.held 0) ((n ≡ 0) × (s' ≡ s) × (reply' ≡ reply) × (out' ≡ out)) (ReadOff line held s reply out n s' reply' out')
