-- What the reader tells has its own place in the number: status in 8 bits, start in 8, length in 16. Assumes nothing.
use Prim.Native.Nat.{ℕ, ◌≤◌, ◌<◌}
use mathlib.Core.Path.{◌≡◌, sym}
use mathlib.Core.List.{List}
use mathlib.Core.Option.{none}
use native.Mathlib.Omega.{arith}
use lib.ListN.{length}
use Rattle.octets.specs.Tests.{first}
use Rattle.octets.specs.Numbers.{Octets}
use Rattle.octets.proofs.Tests.{none-append}
use Rattle.frame.specs.declared.Way.TheVariants.{Reply}
use Rattle.frame.specs.Shape.{reply_room}
use Rattle.frame.specs.Finding.{Finding, found}
use Rattle.frame.proofs.Finding.{finding-found}
use Rattle.frame.specs.Judged.{kind_of, faults, parts_of}
use Rattle.frame.proofs.Bounds.{longest-fits}
use Rattle.frame.proofs.Verdict.{passed}
use Rattle.requests.specs.declared.Request.{Request}
use Rattle.reader.specs.declared.Told.{Told}
use Rattle.reader.specs.Reader.{told_of, reader_refusals, read_as}
use Rattle.codes.specs.Codes.{In, told}
use Rattle.host_c.specs.Coded.{read_code}
use Rattle.host_c.proofs.Fits.{lead-small}

pub record Small (t : Told) : Type 0 where
  pub status : t.status < 256
  pub start : t.start ≤ 6
  pub len : t.len ≤ reply_room

module _ (q : Request) (s : List ℕ) (octets : Octets s) where
  -- a frame that is not refused is no longer than its kind allows
  short : first (reader_refusals q s) ≡ none → length s ≤ reply_room
  unfolding reader_refusals
  short e = omega (arith, (passed Reply s (none-append (faults Reply s) _ e)).within, longest-fits (kind_of s))

  here : length s ≤ reply_room → Small (told_of (parts_of Reply s) s)
  unfolding told_of parts_of
  here h = record { status = octets _; start = omega (arith, lead-small (kind_of s)); len = omega arith }

  pub told-small : (t : Told) → read_as q s ≡ found t → Small t
  unfolding read_as
  told-small t e = let u = finding-found (first (reader_refusals q s)) (told_of (parts_of Reply s) s) t (sym e) in rw u.1 (here (short u.0))

-- so its number stands in the range of what is read
pub told_in : (t : Told) → Small t → In told (read_code (Finding.found t))
told_in t h = (omega arith, omega (arith, h.status, h.start, h.len))
