-- How long a frame made of its parts is. Assumes nothing.
use mathlib.Core.Path.{◌≡◌, refl}
use mathlib.Core.List.{List}
use Prim.Native.Nat.{ℕ, ◌+◌}
use native.Mathlib.Omega.{arith}
use lib.ListN.{length, length-append}
use Rattle.octets.proofs.Numbers.{octets-length}
use Rattle.frame.specs.declared.Kind.{Kind}
use Rattle.frame.specs.declared.Kind.TheVariants.{Standard, Advanced}
use Rattle.frame.specs.declared.Way.TheVariants.{Request}
use Rattle.frame.specs.Shape.{shape_of, overhead}
use Rattle.frame.specs.Sealed.{lead_of, head_of, checked, frame_of}

pub length-lead : (k : Kind) (n : ℕ) → length (lead_of k n) ≡ (shape_of k).lead
length-lead Standard n = refl
length-lead Advanced n = rw octets-length

pub length-head : (k : Kind) (n adr ctl : ℕ) → length (head_of k n adr ctl) ≡ (shape_of k).lead + 2
length-head k n adr ctl = simp (length-append, length-lead)

pub length-checked : (xs : List ℕ) → length (checked xs) ≡ length xs + 2
length-checked xs = simp length-append

module _ (k : Kind) (adr ctl : ℕ) where
  pub length-frame : (body : List ℕ) → length (frame_of k adr ctl body) ≡ overhead Request k + length body
  unfolding frame_of
  length-frame body = rw (length-checked, length-append, length-head) (omega arith)
