-- A frame made of octets consists of octets. Assumes nothing.
use mathlib.Core.List.{List, [], ◌∷◌, ◌++◌}
use Prim.Native.Nat.{ℕ, ◌+◌, ◌≤◌}
use native.Mathlib.Omega.{arith}
use lib.ListN.{length}
use lib.Dec.{lit<}
use Rattle.octets.specs.Each.{All, Octet}
use Rattle.octets.proofs.Each.{all_append, octets-number, each-octets}
use Rattle.crc.proofs.Laws.{crc-lt}
use Rattle.frame.specs.declared.Kind.{Kind}
use Rattle.frame.specs.declared.Kind.TheVariants.{Standard, Advanced}
use Rattle.frame.specs.declared.Way.TheVariants.{Request}
use Rattle.frame.specs.Shape.{shape_of, overhead}
use Rattle.frame.specs.Sealed.{lead_of, head_of, check_of, checked, frame_of}

lead-octets : (k : Kind) (n : ℕ) → n ≤ (shape_of k).longest → All Octet (lead_of k n)
lead-octets Standard n h = (omega arith, tt)
lead-octets Advanced n h = (lit< tt, octets-number 2 n)

checked-octets : (xs : List ℕ) → All Octet xs → All Octet (checked xs)
checked-octets xs p =
    let small = crc-lt xs (each-octets xs p) in
    all_append Octet xs (check_of xs) p (omega arith, (omega arith, tt))

module _ (k : Kind) (adr ctl : ℕ) (body : List ℕ) where
  pub frame-octets : Octet adr → Octet ctl → All Octet body → overhead Request k + length body ≤ (shape_of k).longest
      → All Octet (frame_of k adr ctl body)
  unfolding frame_of
  frame-octets a c b fits =
      let n = overhead Request k + length body in
      let head = all_append Octet (lead_of k n) (adr ∷ ctl ∷ []) (lead-octets k n fits) (a, (c, tt)) in
      checked-octets (head_of k n adr ctl ++ body) (all_append Octet (head_of k n adr ctl) body head b)
