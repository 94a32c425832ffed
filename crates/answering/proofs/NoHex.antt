-- A line that is no hex: what it is, by the tests that the code makes, and what a sighting is answered. Assumes nothing.
use Rattle.std.specs.Prelude.{Result}
use Prim.Native.Nat.{ℕ, ◌-◌, ◌/◌, ◌≤◌, ◌<◌, min}
use mathlib.Core.Path.{◌≡◌, refl, ap, ◌∙◌}
use mathlib.Core.Bool.{Bool, true, false, ◌&&◌}
use mathlib.Core.List.{List, []}
use native.Mathlib.Omega.{arith}
use borrow.Author.Tests.{ne_eqb, eqb-true}
use lib.ListN.{length, get_or, take, drop, length-drop}
use lib.Dec.{eqb}
use lib.Seq.{take_all}
use Rattle.frame.specs.declared.Refusal.{Refusal}
use Rattle.octets.specs.Tests.{all_of}
use Rattle.octets.specs.Parts.{part, put}
use Rattle.octets.specs.Numbers.{number}
use Rattle.octets.proofs.Tests.{both}
use Rattle.octets.proofs.Puts.{put_whole}
use Rattle.rules.specs.Box.{Event}
use Rattle.events.specs.declared.Answer.{Answer}
use Rattle.depot.specs.Called.{Called}
use Rattle.digits.specs.Digits.{decimal, is_hex, octets_of}
use Rattle.text.specs.Listing.{tick, not_read, is_tick, is_sighting, sighting_of, other_line, Printed, printed}
use Rattle.answering.specs.Answered.{Answered}
use Rattle.digits.proofs.Values.{bounds, octets-length}

module _ (s : List ℕ) where
  pub other-tick : is_tick s ≡ true → other_line s ≡ tick
  unfolding other_line
  other-tick e = rw e

  pub other-sighting : is_tick s ≡ false → is_sighting s ≡ true → other_line s ≡ sighting_of s
  unfolding other_line
  other-sighting e q = rw (e, q)

  pub other_none : is_tick s ≡ false → is_sighting s ≡ false → other_line s ≡ not_read
  unfolding other_line
  other_none e q = rw (e, q)

pub long-other : (s : List ℕ) → 20 < length s → other_line s ≡ not_read
unfolding other_line is_tick is_sighting
long-other s h = rw (ne_eqb (length s) 1 (λ e. omega arith), ne_eqb (length s) 20 (λ e. omega arith))

-- ---- a sighting

pub sighting-facts : (s : List ℕ) → is_sighting s ≡ true → (length s ≡ 20) × (0x30 ≤ get_or s 1 0) × (get_or s 1 0 ≤ 0x39)
unfolding is_sighting
sighting-facts s e =
    let size : Bool = eqb (length s) 20 in
    let letter : Bool = eqb (get_or s 0 0) 0x73 in
    let digit : Bool = decimal (get_or s 1 0) in
    let three = (both (size && letter && digit) (all_of is_hex (drop 2 s)) e).0 in
    let desk = bounds 0x30 0x39 (get_or s 1 0) (both (size && letter) digit three).1 in
    (eqb-true (length s) 20 (both size letter (both (size && letter) digit three).0).0, desk.0, desk.1)

-- the nine octets of a sighting, written over zeros
pub nine-octets : (s rest zeros nine : List ℕ) (n : ℕ) → length s ≡ 20 → rest ≡ drop 2 s → length zeros ≡ 9 → n ≡ min (length rest / 2) (length zeros)
    → nine ≡ put 0 (take n (octets_of rest)) zeros → nine ≡ octets_of (drop 2 s)
nine-octets s rest zeros nine n l e z m p =
    let r : length rest ≡ 18 = ap length e ∙ length-drop 2 s ∙ omega arith in
    p
    ∙ rw (take_all n (octets_of rest) (omega (arith, octets-length rest))) (put_whole (octets_of rest) zeros (omega (arith, octets-length rest)))
    ∙ ap octets_of e

pub sighting-answered : (s nine : List ℕ) (uid : ℕ) (store reply out : List ℕ) (a : Result Answer Refusal) (n : ℕ) (store' out' : List ℕ)
    → nine ≡ octets_of (drop 2 s) → uid ≡ number (part 0 8 nine) → Called (Event.sighting (get_or s 1 0 - 0x30) uid (get_or nine 8 0)) store [] a store' []
    → Printed (printed a reply) out n out' → Answered (sighting_of s) store reply out n store' reply out'
unfolding sighting_of
sighting-answered s nine uid store reply out a n store' out' e u q p = record { answers = (a, rw (u, e) at q, refl, p) }
