-- Two outcomes of a line's answer are equal: how much is printed, the output, the reply buffer, and what the store says. Assumes nothing.
use Rattle.std.specs.Prelude.{Result}
use Prim.Native.Nat.{ℕ}
use mathlib.Core.Path.{◌≡◌, refl, sym, ap, ap₂, ◌∙◌}
use mathlib.Core.List.{List, []}
use lib.ListN.{length}
use Rattle.frame.specs.declared.Refusal.{Refusal}
use Rattle.octets.specs.Parts.{put}
use Rattle.rules.specs.Box.{Event}
use Rattle.events.specs.declared.Answer.{Answer}
use Rattle.depot.proofs.Once.{AsOne, kept-once, once-as-one}
use Rattle.text.specs.Listing.{Line, frame, sighting, tick, not_read, printed, Printed}
use Rattle.answering.specs.Answered.{Answered}

pub record Same (n n'' : ℕ) (s' u' reply' reply'' out' out'' : List ℕ) : Type 0 where
  pub counts : n ≡ n''
  pub stores : AsOne s' u'
  pub replies : reply' ≡ reply''
  pub outputs : out' ≡ out''

module _ (s u reply out : List ℕ) (n n'' : ℕ) (s' u' reply' reply'' out' out'' : List ℕ) (one : AsOne s u) where
  alike : (t t'' : List ℕ) → t ≡ t'' → AsOne s' u' → reply' ≡ reply'' → Printed t out n out' → Printed t'' out n'' out'' → Same n n'' s' u' reply' reply'' out' out''
  alike t t'' e v r p q =
      record {
        counts = p.count-is ∙ ap length e ∙ sym q.count-is;
        stores = v;
        replies = r;
        outputs = p.output-is ∙ ap (λ (x : List ℕ). put 0 x out) e ∙ sym q.output-is;
      }

  pub answered-once : (l : Line) → Answered l s reply out n s' reply' out' → Answered l u reply out n'' u' reply'' out'' → Same n n'' s' u' reply' reply'' out' out''
  answered-once (frame f) p q =
      let a = p.answers in
      let b = q.answers in
      let o = once-as-one (Event.frame f (length reply)) s u reply a.0 b.0 s' u' reply' reply'' one a.1 b.1 in
      alike _ _ (ap₂ printed o.answers o.outputs) o.stores o.outputs a.2 b.2
  answered-once (sighting desk uid mask) p q =
      let a = p.answers in
      let b = q.answers in
      let o = once-as-one (Event.sighting desk uid mask) s u [] a.0 b.0 s' u' [] [] one a.1 b.1 in
      alike _ _ (ap (λ (x : Result Answer Refusal). printed x reply) o.answers) o.stores (a.2 ∙ sym b.2) a.3 b.3
  answered-once tick p q =
      let a = p.answers in
      let b = q.answers in
      let o = once-as-one Event.tick s u [] a.0 b.0 s' u' [] [] one a.1 b.1 in
      alike _ _ (ap (λ (x : Result Answer Refusal). printed x reply) o.answers) o.stores (a.2 ∙ sym b.2) a.3 b.3
  answered-once not_read p q =
      let a = p.answers in
      let b = q.answers in
      alike _ _ refl (kept-once s u s' u' one a.0 b.0) (a.1 ∙ sym b.1) a.2 b.2
