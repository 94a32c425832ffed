-- A text that is fed octet by octet: what is held and known of it after one more. Assumes nothing.
use Prim.Native.Nat.{ℕ, ◌+◌, ◌≤◌, ◌<◌}
use mathlib.Core.Path.{◌≡◌, refl, sym, ap, ◌∙◌}
use mathlib.Core.Bool.{Bool, true, false, not, ◌&&◌, ◌||◌}
use mathlib.Core.List.{List, [], ◌∷◌, ◌++◌}
use native.Mathlib.Numerals.{add-one}
use native.Mathlib.Omega.{arith}
use borrow.Author.Tests.{lt-ltb, le-ltb}
use lib.ListN.{length, take, set, length-append, length-set}
use lib.Seq.{take_all, take-nil, take-suc-set, take-append-le, set_out}
use Rattle.octets.specs.Tests.{all_of}
use Rattle.feeding.specs.declared.Begun.{Begun}
use Rattle.digits.specs.Digits.{is_hex}
use Rattle.text.specs.Listing.{odd}
use Rattle.feeding.specs.Feeding.{Fed, none_fed, Feeds, fed_one}
use Rattle.digits.proofs.Values.{all_snoc}

pub fed-none : (held : List ℕ) → Fed [] none_fed held
unfolding odd all_of
fed-none held =
    record {
      count-is = omega arith;
      held-is = sym (take-nil (length held));
      over-is = sym (le-ltb (length held) 0 (omega arith));
      odd_is = refl;
      bad-is = refl;
    }

odd-snoc : (s : List ℕ) (c : ℕ) → odd (s ++ (c ∷ [])) ≡ not (odd s)
unfolding odd
odd-snoc [] c = refl
odd-snoc (x ∷ s) c = ap not (odd-snoc s c)

not-and : (a b : Bool) → not a || not b ≡ not (a && b)
not-and true b = refl
not-and false b = refl

-- the octet c, and whether one was no hex digit after it
module _ (c : ℕ) (at : Begun) (held : List ℕ) (b : Bool) (spoilt : b ≡ (at.bad || not (is_hex c))) where
  module _ (text : List ℕ) (f : Fed text at held) where
    more : length (text ++ (c ∷ [])) ≡ length text + 1
    more = omega (arith, length-append text (c ∷ []))

    odd-more : not at.odd ≡ odd (text ++ (c ∷ []))
    odd-more = ap not f.odd_is ∙ sym (odd-snoc text c)

    bad_more : b ≡ not (all_of is_hex (text ++ (c ∷ [])))
    bad_more =
        spoilt
        ∙ ap (λ (x : Bool). x || not (is_hex c)) f.bad-is
        ∙ not-and (all_of is_hex text) (is_hex c)
        ∙ ap not (sym (all_snoc is_hex text c))

    held_more : at.held < length held
        → Fed (text ++ (c ∷ [])) (record { held = at.held + 1; over = at.over; odd = not at.odd; bad = b }) (set held at.held c)
    held_more h =
        let n : length text ≡ at.held = omega (arith, f.count-is) in
        let l : length (set held at.held c) ≡ length held = length-set held at.held c in
        record {
          count-is = omega (arith, f.count-is, more, l);
          held-is =
              ap (λ (k : ℕ). take k (set held at.held c)) (add-one at.held)
              ∙ take-suc-set held at.held c h
              ∙ ap (λ (xs : List ℕ). xs ++ (c ∷ [])) (f.held-is ∙ take_all (length held) text (omega arith))
              ∙ sym (take_all (length (set held at.held c)) (text ++ (c ∷ [])) (omega (arith, more, l)));
          over-is = f.over-is ∙ le-ltb (length held) (length text) (omega arith) ∙ sym (le-ltb (length (set held at.held c)) (length (text ++ (c ∷ []))) (omega (arith, more, l)));
          odd_is = odd-more;
          bad-is = bad_more;
        }

    over-more : length held ≤ at.held → Fed (text ++ (c ∷ [])) (record { held = at.held; over = true; odd = not at.odd; bad = b }) held
    over-more h =
        let n : length held ≤ length text = omega (arith, f.count-is) in
        record {
          count-is = omega (arith, f.count-is, more);
          held-is = f.held-is ∙ sym (take-append-le (length held) text (c ∷ []) n);
          over-is = sym (lt-ltb (length held) (length (text ++ (c ∷ []))) (omega (arith, more)));
          odd_is = odd-more;
          bad-is = bad_more;
        }

  pub feeds-held : at.held < length held → Feeds c at held (record { held = at.held + 1; over = at.over; odd = not at.odd; bad = b }) (set held at.held c)
  unfolding fed_one
  feeds-held h = record { state-is = rw (lt-ltb at.held (length held) h, spoilt); buffer-is = refl; fed = λ text f. held_more text f h }

  pub feeds-over : length held ≤ at.held → Feeds c at held (record { held = at.held; over = true; odd = not at.odd; bad = b }) held
  unfolding fed_one
  feeds-over h =
      record { state-is = rw (le-ltb at.held (length held) h, spoilt); buffer-is = sym (set_out held at.held c h); fed = λ text f. over-more text f h }
