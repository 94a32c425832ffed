-- Octets that are taken lead on: what is printed is what the whole input prints, however it came in parts. Assumes nothing.
use Prim.Native.Nat.{ℕ, suc, ◌+◌, ◌≤◌}
use mathlib.Core.Path.{◌≡◌, refl, sym, ap, ap₂, subst, ◌∙◌}
use mathlib.Core.Bool.{Bool, true, false, cond}
use mathlib.Core.List.{List, [], ◌∷◌, ◌++◌, append_assoc, append-nil}
use native.Mathlib.Nat.{add-zero}
use native.Mathlib.Omega.{arith}
use borrow.Author.Tests.{leb-true}
use lib.Dec.{eqb, leb}
use lib.ListN.{length, take, drop, length-drop, length-set}
use lib.Seq.{take-add, take-nil}
use Rattle.octets.specs.Parts.{part, put}
use Rattle.octets.proofs.Puts.{put-length, take-put-before, drop-put, put_whole, part-put-same}
use Rattle.rules.specs.Box.{Box}
use Rattle.store.specs.View.{view}
use Rattle.store.specs.Sound.{sound}
use Rattle.text.specs.Listing.{longest_line, line_of}
use Rattle.text.specs.Whole.{lf, lines_from, said, printed_from, listing}
use Rattle.feeding.specs.declared.Begun.{Begun}
use Rattle.feeding.specs.Feeding.{Fed}
use Rattle.feeding.proofs.Feeding.{fed-none}
use Rattle.answering.proofs.Meaning.{Means, answered-means}
use Rattle.turning.specs.Turning.{State, LineEnds, LineGoesOn, Takes}
use Rattle.taking.specs.Taking.{roomy, Took}
use Rattle.taking.specs.Listed.{waits, Listening}
use Rattle.turning.proofs.Turns.{answer-short}

-- ---- the lines of an input, an octet more

lines-lf : (text : List ℕ) (c : ℕ) (more : List ℕ) → eqb c lf ≡ true → lines_from text (c ∷ more) ≡ text ∷ lines_from [] more
unfolding lines_from
lines-lf text c more e = rw e

lines-on : (text : List ℕ) (c : ℕ) (more : List ℕ) → eqb c lf ≡ false → lines_from text (c ∷ more) ≡ lines_from (text ++ (c ∷ [])) more
unfolding lines_from
lines-on text c more e = rw e

-- ---- what waits, a line more

more-waits : (w n : ℕ) (t rest out out' : List ℕ) → w + length t ≤ length out → n ≡ length t → rest ≡ put 0 t (drop w out) → out' ≡ put w rest out
    → take (w + n) out' ≡ take w out ++ t
unfolding part
more-waits w n t rest out out' room count e o =
    let l : length rest ≡ length (drop w out) = ap length e ∙ put-length 0 t (drop w out) in
    let whole : drop w out' ≡ rest =
    ap (drop w) o
    ∙ ap (λ (k : ℕ). drop w (put k rest out)) (sym (add-zero w))
    ∙ drop-put w 0 rest out
    ∙ put_whole rest (drop w out) l in
    take-add w n out'
    ∙ ap₂ ◌++◌ (ap (take w) o ∙ take-put-before w w rest out (omega arith))
    (ap₂ take count (whole ∙ e) ∙ part-put-same 0 t (drop w out) (omega (arith, length-drop w out)))

joined : (p x y z w : List ℕ) → w ≡ x ++ y → p ++ x ++ (y ++ z) ≡ p ++ w ++ z
joined p x y z w e = sym (append_assoc (p ++ x) y z) ∙ ap (λ (l : List ℕ). l ++ z) (append_assoc p x y ∙ ap (λ (l : List ℕ). p ++ l) (sym e))

-- ---- an octet

module _ (input printed : List ℕ) (c : ℕ) (a b : State) (room : a.written + longest_line ≤ length a.out) (so : Listening input printed a) where
  next : (more : List ℕ) → listing (input ++ (c ∷ []) ++ more) ≡ printed ++ waits a ++ printed_from (view a.store) (lines_from so.text (c ∷ more))
  next more = ap listing (append_assoc input (c ∷ []) more) ∙ so.onward (c ∷ more)

  ended : eqb c lf ≡ true → LineEnds a b → Listening (input ++ (c ∷ [])) printed b
  unfolding printed_from
  ended e q =
      let d = said (view a.store) (line_of so.text) in
      let m : Means d a.reply (drop a.written a.out) q.count b.store b.reply q.rest =
      answered-means a.store a.reply (drop a.written a.out) q.count b.store b.reply q.rest so.still (line_of so.text) so.reply-size
      (q.answered.whole so.text so.fed (omega (arith, so.held-size))) in
      let short = answer-short a.line a.written a.held a.store a.reply a.out q.count b.store b.reply q.rest (drop a.written a.out) q.answered in
      let w : waits b ≡ waits a ++ d.text =
      ap (λ (k : ℕ). take k b.out) q.written_is
      ∙ more-waits a.written q.count d.text q.rest a.out b.out (omega (arith, short, m.prints.count-is)) m.prints.count-is m.prints.output-is q.out-is in
      record {
        text = [];
        fed = subst (λ (r : Begun). Fed [] r b.held) (sym q.line-is) (fed-none b.held);
        still = m.left.still;
        onward = λ more.
            next more
            ∙ ap (λ (ls : List (List ℕ)). printed ++ waits a ++ printed_from (view a.store) ls) (lines-lf so.text c more e)
            ∙ joined printed (waits a) d.text (printed_from d.box (lines_from [] more)) (waits b) w
            ∙ ap (λ (x : Box). printed ++ waits b ++ printed_from x (lines_from [] more)) (sym m.left.says);
        held-size = ap length q.held-is ∙ so.held-size;
        reply-size = m.size ∙ so.reply-size;
      }

  went_on : eqb c lf ≡ false → LineGoesOn c a b → Listening (input ++ (c ∷ [])) printed b
  went_on e q =
      record {
        text = so.text ++ (c ∷ []);
        fed = q.feeds.fed so.text so.fed;
        still = ap sound q.store_is ∙ so.still;
        onward = λ more.
            next more
            ∙ ap (λ (ls : List (List ℕ)). printed ++ waits a ++ printed_from (view a.store) ls) (lines-on so.text c more e)
            ∙ ap₂ (λ (x s : List ℕ). printed ++ x ++ printed_from (view s) (lines_from (so.text ++ (c ∷ [])) more)) (sym (ap₂ take q.written_is q.out-is)) (sym q.store_is);
        held-size = ap length q.feeds.buffer-is ∙ simp length-set so.held-size;
        reply-size = ap length q.reply-is ∙ so.reply-size;
      }

  pub octet-listens : Takes c a b → Listening (input ++ (c ∷ [])) printed b
  unfolding Takes
  octet-listens q = go (eqb c lf) refl q
    where
      go : (t : Bool) → eqb c lf ≡ t → cond t (LineEnds a b) (LineGoesOn c a b) → Listening (input ++ (c ∷ [])) printed b
      go true e r = ended e r
      go false e r = went_on e r

-- ---- a part

pub part-listens : (part input printed : List ℕ) (a : State) (n : ℕ) (b : State) → Took part a n b → Listening input printed a → Listening (input ++ take n part) printed b
unfolding Took roomy
part-listens [] input printed a n b q so =
    subst (λ (l : List ℕ). Listening l printed b) (sym (ap (λ (l : List ℕ). input ++ l) (take-nil n) ∙ append-nil input))
    (subst (Listening input printed) (sym q.1) so)
part-listens (c ∷ part) input printed a n b q so = go (leb (a.written + longest_line) (length a.out)) refl (λ m k. part-listens part (input ++ (c ∷ [])) printed m k b) q
  where
    go : (t : Bool) → leb (a.written + longest_line) (length a.out) ≡ t
        → ((m : State) (k : ℕ) → Took part m k b → Listening (input ++ (c ∷ [])) printed m → Listening (input ++ (c ∷ []) ++ take k part) printed b)
        → cond t ((m : State) × (k : ℕ) × (n ≡ suc k) × Takes c a m × Took part m k b) ((n ≡ 0) × (b ≡ a))
        → Listening (input ++ take n (c ∷ part)) printed b
    go true e then (m, k, is, one, rest) =
        let on : Listening (input ++ (c ∷ [])) printed m = octet-listens input printed c a m (leb-true _ _ e) so one in
        let end : Listening (input ++ (c ∷ []) ++ take k part) printed b = then m k rest on in
        subst (λ (l : List ℕ). Listening l printed b) (append_assoc input (c ∷ []) (take k part) ∙ ap (λ (j : ℕ). input ++ take j (c ∷ part)) (sym is)) end
    go false e then (is, same) =
        subst (λ (l : List ℕ). Listening l printed b) (sym (ap (λ (j : ℕ). input ++ take j (c ∷ part)) is ∙ append-nil input))
        (subst (Listening input printed) (sym same) so)
