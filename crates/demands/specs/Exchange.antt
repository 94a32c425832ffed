-- An exchange: the host's request, handed to the box, and its reply, handed back to the host. Assumes nothing.
use Rattle.std.specs.Prelude.{ℕ, ◌+◌, ◌<◌, ◌≡◌, true, List, ◌∷◌, length, take, set, Result, Ok}
use Rattle.table.specs.Entries.{desks}
use Rattle.rules.specs.Config.{block_size}
use Rattle.octets.specs.Parts.{part}
use Rattle.octets.specs.Each.{All, Octet}
use Rattle.frame.specs.declared.Refusal.{Refusal}
use Rattle.frame.specs.Shape.{shape_of}
use Rattle.frame.specs.Finding.{found}
use Rattle.frame.specs.Sealed.{frame_of}
use Rattle.rules.specs.Command.{Result as Ruling, answered}
use Rattle.rules.specs.Box.{desk_at}
use Rattle.store.specs.View.{view}
use Rattle.store.specs.Sound.{sound}
use Rattle.events.specs.declared.Answer.{Answer}
use Rattle.events.specs.declared.Answer.TheVariants.{Reply}
use Rattle.requests.specs.declared.Request.{Request}
use Rattle.reader.specs.declared.Told.{Told}
use Rattle.requests.specs.Request.{control_of, fields_hold, data_for}
use Rattle.reader.specs.Reader.{read_as}

-- a request that a frame can carry
pub record Carriable (q : Request) : Type 0 where
  pub bytes : length q.bytes ≡ block_size
  pub desk : q.desk < desks
  pub fields : fields_hold q.ask ≡ true

-- what the rules have the desk answer that a store says
abbrev pub ruled_by : Request → List ℕ → Ruling
ruled_by q s = answered q.kind (desk_at (view s) q.desk) (control_of q.ask) (data_for q)

-- the reply that carries it
abbrev pub reply_to : Request → List ℕ → List ℕ
reply_to q s = let r = ruled_by q s in frame_of q.kind q.desk (control_of q.ask) (r.status ∷ r.sent)

-- the first so many octets of the output, as the host takes them
abbrev pub taken : Request → List ℕ → List ℕ → List ℕ
taken q s out = take (length (reply_to q s)) out

-- what the host reads of it: the status that the rules give, and where the data lie
abbrev pub told_to : Request → List ℕ → Told
told_to q s = let r = ruled_by q s in record { status = r.status; start = (shape_of q.kind).lead + 3; len = length r.sent }

-- the box replied; what stands at the start of the output is that reply; the host accepts it and reads status and data as they were sent;
-- and the store says the desk that the request's rule gives, and the other seven as before
pub record ReadBack (q : Request) (s : List ℕ) (a : Result Answer Refusal) (s' out' : List ℕ) : Type 0 where
  pub answer-is : a ≡ Ok (Reply (length (reply_to q s)))
  pub there : taken q s out' ≡ reply_to q s
  pub read_is : read_as q (taken q s out') ≡ found (told_to q s)
  pub data_is : part (told_to q s).start (told_to q s).len (taken q s out') ≡ (ruled_by q s).sent
  pub still : sound s' ≡ true
  pub says : view s' ≡ set (view s) q.desk (ruled_by q s).desk

-- a sound store that makes the box answer the request with this status and data length
pub record Gives (q : Request) (status len : ℕ) : Type 0 where
  pub store : List ℕ
  pub octets : All Octet store
  pub still : sound store ≡ true
  pub status-is : (ruled_by q store).status ≡ status
  pub len_is : length (ruled_by q store).sent ≡ len
