-- Whether a frame has room in a buffer, and what the buffer holds after one was made in it. Assumes nothing.
use Rattle.std.specs.Prelude.{ℕ, ◌+◌, Bool, cond, ◌&&◌, List, ◌∷◌, length, leb, Option, Some, None}
use Rattle.octets.specs.Parts.{part, put}
use Rattle.frame.specs.declared.Kind.{Kind}
use Rattle.frame.specs.declared.Way.{Way}
use Rattle.frame.specs.declared.Way.TheVariants.{Request, Reply}
use Rattle.frame.specs.Shape.{shape_of, overhead, data_at}
use Rattle.frame.specs.Sealed.{frame_of}

-- a frame with len octets of data is not longer than its kind allows, nor than the room
unfoldable pub fits_in : Way → Kind → ℕ → ℕ → Bool
fits_in w k len room = leb (overhead w k + len) (shape_of k).longest && leb (overhead w k + len) room

-- how many octets the frame has, where it fits
unfoldable pub sealed_as : Way → Kind → ℕ → List ℕ → Option ℕ
sealed_as w k len out = cond (fits_in w k len (length out)) (Some (overhead w k + len)) None

-- the len octets of data that stand in the buffer at the kind's place
abbrev pub data_in : Way → Kind → ℕ → List ℕ → List ℕ
data_in w k len out = part (data_at w k) len out

-- what the buffer holds after a request was made around the data in it
unfoldable pub request_in : Kind → ℕ → ℕ → ℕ → List ℕ → List ℕ
request_in k adr ctl len out =
    cond (fits_in Request k len (length out)) (put 0 (frame_of k adr ctl (data_in Request k len out)) out) out

-- the same of a reply
unfoldable pub reply_in : Kind → ℕ → ℕ → ℕ → ℕ → List ℕ → List ℕ
reply_in k adr ctl status len out =
    cond (fits_in Reply k len (length out)) (put 0 (frame_of k adr ctl (status ∷ data_in Reply k len out)) out) out
