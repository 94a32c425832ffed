-- What the reader owes its reader. Assumes nothing.
use Rattle.std.specs.Prelude.{ℕ, ◌+◌, ◌-◌, ◌*◌, Bool, true, false, not, ◌&&◌, ◌||◌, List, [], ◌∷◌, ◌++◌, length, get_or, eqb}
use Rattle.octets.specs.Tests.{first}
use Rattle.octets.specs.Numbers.{u16_at}
use Rattle.frame.specs.declared.Kind.{Kind}
use Rattle.frame.specs.declared.Kind.TheVariants.{Standard, Advanced}
use Rattle.frame.specs.declared.Way.TheVariants.{Reply}
use Rattle.frame.specs.declared.Frame.{Frame}
use Rattle.frame.specs.Finding.{Finding, finding}
use Rattle.frame.specs.Judged.{faults, parts_of, data_of}
use Rattle.table.specs.Entries.{record_width}
use Rattle.requests.specs.declared.Request.{Request}
use Rattle.requests.specs.Request.{control_of}
use Rattle.possible.specs.Possible.{possible}
use Rattle.reader.specs.declared.Told.{Told}

abbrev pub same_kind : Kind → Kind → Bool
same_kind Standard Standard = true
same_kind Standard Advanced = false
same_kind Advanced Standard = false
same_kind Advanced Advanced = true

-- the status stands before the data
unfoldable pub told_of : Frame → List ℕ → Told
told_of f s = record { status = get_or s (f.start - 1) 0; start = f.start; len = f.len }

-- the data of a reply to 0x22, where there are any, begin with a count that their length allows
unfoldable pub count_right : ℕ → List ℕ → Bool
count_right control sent = not (eqb control 0x22) || eqb (length sent) 0 || eqb (length sent) (2 + u16_at 0 sent * record_width)

-- kind, address and control byte are the request's; a box can answer it so; the record count is right
unfoldable pub answers_to : Request → Frame → List ℕ → Bool
answers_to q f s =
    same_kind f.kind q.kind && eqb f.address q.desk && eqb f.control (control_of q.ask)
    && possible q (told_of f s).status f.len && count_right f.control (data_of f s)

-- the reader can meet 3, 31, 32, 33, 4, then 8: the frame's faults; a frame that does not answer the request
unfoldable pub reader_refusals : Request → List ℕ → List (ℕ × Bool)
reader_refusals q s = faults Reply s ++ ((8, not (answers_to q (parts_of Reply s) s)) ∷ [])

-- what is read: refused with the paper's number; or status, and where the data lie
unfoldable pub read_as : Request → List ℕ → Finding Told
read_as q s = finding (first (reader_refusals q s)) (told_of (parts_of Reply s) s)
