-- Results that a reply carries: octets, within the kind's longest length. Assumes nothing.
use mathlib.Core.Path.{◌≡◌, refl, ◌∙◌}
use Prim.Native.Nat.{ℕ, ◌+◌, ◌*◌, ◌≤◌, min}
use native.Mathlib.Omega.{arith}
use mathlib.Core.Bool.{Bool, true, false, cond}
use mathlib.Core.List.{List, [], ◌∷◌, ◌++◌}
use lib.ListN.{length, take, length-append, length-take}
use lib.Dec.{ltb, lit<}
use Rattle.octets.specs.Numbers.{octets}
use Rattle.octets.specs.Each.{All, Octet}
use Rattle.octets.proofs.Each.{octets-part, all_append, all_take, octets-number}
use Rattle.frame.specs.declared.Kind.{Kind}
use Rattle.table.specs.Entries.{record_width}
use Rattle.rules.specs.Config.{block_size, block_at}
use Rattle.rules.specs.Desk.{Desk, Table}
use Rattle.rules.specs.Command.{result, Result}
use Rattle.rules.proofs.Facts.{TableLegal, RecordLegal}
use Rattle.octets.specs.Parts.{part, joined}
use Rattle.octets.proofs.Numbers.{octets-length}
use Rattle.frame.specs.declared.Kind.TheVariants.{Standard, Advanced}
use Rattle.frame.specs.declared.Way.TheVariants.{Reply}
use Rattle.frame.specs.Shape.{shape_of, overhead}
use Rattle.rules.specs.Records.{most_sent, goes, read_status, counted}

-- status and data are octets, and a reply of the kind has room for them
pub record Carried (kind : Kind) (r : Result) : Type 0 where
  pub status : Octet r.status
  pub sent : All Octet r.sent
  pub small : overhead Reply kind + length r.sent ≤ (shape_of kind).longest

-- ---- records go in whole

length-records : (rs : List (List ℕ)) → All RecordLegal rs → length (joined rs) ≡ length rs * record_width
unfolding joined
length-records [] p = refl
length-records (r ∷ rs) p = length-append r (joined rs) ∙ omega (arith, p.0.size, length-records rs p.1)

octets-records : (rs : List (List ℕ)) → All RecordLegal rs → All Octet (joined rs)
unfolding joined
octets-records [] p = tt
octets-records (r ∷ rs) p = all_append Octet r (joined rs) p.0.octets (octets-records rs p.1)

-- n records, where n is no more than what fits
records-small : (kind : Kind) (n : ℕ) → n ≤ most_sent kind → overhead Reply kind + (2 + n * record_width) ≤ (shape_of kind).longest
unfolding most_sent
records-small Standard n h = omega arith
records-small Advanced n h = omega arith

-- short data fits in either kind
few-small : (kind : Kind) (n : ℕ) → n ≤ block_size → overhead Reply kind + n ≤ (shape_of kind).longest
few-small Standard n h = omega arith
few-small Advanced n h = omega arith

pub few-carried : (kind : Kind) (status : ℕ) (sent : List ℕ) (d : Desk) → Octet status → All Octet sent → length sent ≤ block_size → Carried kind (result status sent d)
unfolding result
few-carried kind status sent d o q h = record { status = o; sent = q; small = few-small kind (length sent) h }

pub plain_carried : (kind : Kind) (status : ℕ) (d : Desk) → Octet status → Carried kind (result status [] d)
plain_carried kind status d o = few-carried kind status [] d o tt (omega arith)

pub cond-octet : (b : Bool) (x y : ℕ) → Octet x → Octet y → Octet (cond b x y)
cond-octet true x y p q = p
cond-octet false x y p q = q

pub block-octets : (k : ℕ) (m : List ℕ) → All Octet m → All Octet (block_at k m)
unfolding block_at
block-octets k m o = octets-part (block_size * k) block_size m o

pub block-few : (k : ℕ) (m : List ℕ) → length (block_at k m) ≤ block_size
unfolding block_at part
block-few k m = simp length-take (omega arith)

pub records-carried : (kind : Kind) (k : ℕ) (t : Table) (d : Desk) → TableLegal t → Carried kind (result (read_status kind k t) (counted (take (goes kind k t) t.held)) d)
unfolding result read_status counted
records-carried kind k t d p =
    let n = goes kind k t in
    let rs = take n t.held in
    let each : All RecordLegal rs = all_take RecordLegal n t.held p.each in
    let h : length rs ≤ most_sent kind = unfold goes in simp length-take (omega arith) in
    let whole : length (octets 2 (length rs) ++ joined rs) ≡ 2 + length rs * record_width =
    length-append (octets 2 (length rs)) (joined rs) ∙ omega (arith, octets-length 2 (length rs), length-records rs each) in
    record {
      status = cond-octet t.overflow 0x93 _ (lit< tt) (cond-octet (ltb n (min k (length t.held))) 0x94 0x00 (lit< tt) (lit< tt));
      sent = all_append Octet (octets 2 (length rs)) (joined rs) (octets-number 2 (length rs)) (octets-records rs each);
      small = rw whole (records-small kind (length rs) h);
    }
