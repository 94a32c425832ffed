-- On a sound store a line is answered as the rules say: what is printed, and the box after it. Assumes nothing.
use Rattle.std.specs.Prelude.{Result}
use Prim.Native.Nat.{ℕ, ◌≤◌}
use mathlib.Core.Path.{◌≡◌, refl, ap, subst, ◌∙◌}
use mathlib.Core.Bool.{true}
use mathlib.Core.List.{List, []}
use mathlib.Core.Option.{Option, none, some}
use native.Mathlib.Omega.{arith}
use lib.ListN.{length, take}
use Rattle.octets.specs.Tests.{first}
use Rattle.octets.specs.Parts.{part}
use Rattle.octets.proofs.Puts.{put-length, part-put-same}
use Rattle.frame.specs.declared.Refusal.{Refusal}
use Rattle.frame.specs.Shape.{reply_room}
use Rattle.rules.specs.Box.{Box, Event, Answer as RuleAnswer, refused, reply, seen, ok, AtDesk, desk_at, sighted, placed, unless_refused, sighting_refusals, step}
use Rattle.store.specs.View.{view}
use Rattle.store.specs.Sound.{sound}
use Rattle.events.specs.declared.Answer.{Answer}
use Rattle.events.specs.Happened.{Ended}
use Rattle.depot.specs.Called.{Called}
use Rattle.events.proofs.Short.{Short}
use Rattle.depot.proofs.Short.{frame-short}
use Rattle.depot.proofs.Steps.{Left, ended-sound, left-sound}
use Rattle.text.specs.Listing.{Line, frame, sighting, tick, not_read, printed, Printed}
use Rattle.text.specs.Whole.{answer_line, Said, answer_to, said}
use Rattle.answering.specs.Answered.{Answered}

-- ---- what is printed for the rules' answer

module _ (box : Box) (s out : List ℕ) (a : Result Answer Refusal) (s' out' : List ℕ) where
  -- the octets of a reply stand in the buffer that is printed
  ended-line : (t : RuleAnswer) (shown : List ℕ) → ((x : List ℕ) → t ≡ reply x → take (length x) shown ≡ x) → Ended t box s out a s' out' → printed a shown ≡ answer_line t
  unfolding printed answer_line
  ended-line (refused n) shown there e = rw (e.0.answer-is, e.0.number_is)
  ended-line (reply x) shown there e = rw (e.0, there x refl)
  ended-line (seen w) shown there e = rw e.0
  ended-line ok shown there e = rw e.0

  ended-length : (t : RuleAnswer) → Ended t box s out a s' out' → length out' ≡ length out
  ended-length (refused r) e = ap length e.1.1
  ended-length (reply x) e = ap length e.1 ∙ put-length 0 x out
  ended-length (seen w) e = ap length e.1
  ended-length ok e = ap length e.1

  ended-there : (t : RuleAnswer) → Short a → reply_room ≤ length out → Ended t box s out a s' out' → (x : List ℕ) → t ≡ reply x → take (length x) out' ≡ x
  unfolding part
  ended-there t short room e x is =
      let q : Ended (reply x) box s out a s' out' = subst (λ (u : RuleAnswer). Ended u box s out a s' out') is e in
      let l : length x ≤ reply_room = subst Short q.0 short in
      ap (take (length x)) q.1 ∙ part-put-same 0 x out (omega arith)

-- ---- sightings and ticks have no reply

unless-seen : (o : Option ℕ) (box : Box) (n : ℕ) (d : AtDesk) (x : List ℕ) → (d.answer ≡ reply x → ⊥) → (unless_refused o box (placed box n d)).answer ≡ reply x → ⊥
unfolding unless_refused placed
unless-seen none box n d x never e = never e
unless-seen (some r) box n d x never e = let z : ◌≡◌ {A = ℕ} 0 1 = cc in omega arith

sighting-no-reply : (box : Box) (n uid mask : ℕ) (x : List ℕ) → (step box (Event.sighting n uid mask)).answer ≡ reply x → ⊥
unfolding step
sighting-no-reply box n uid mask x e =
    unless-seen (first (sighting_refusals n mask)) box n (sighted uid mask (desk_at box n)) x (λ q. unfold sighted in let z : ◌≡◌ {A = ℕ} 0 1 = cc in omega arith) e

tick-no-reply : (box : Box) (x : List ℕ) → (step box Event.tick).answer ≡ reply x → ⊥
unfolding step
tick-no-reply box x e = let z : ◌≡◌ {A = ℕ} 0 1 = cc in omega arith

-- ---- a line

pub record Means (d : Said) (reply out : List ℕ) (n : ℕ) (s' reply' out' : List ℕ) : Type 0 where
  pub prints : Printed d.text out n out'
  pub left : Left d.box s'
  pub size : length reply' ≡ length reply

module _ (s reply out : List ℕ) (n : ℕ) (s' reply' out' : List ℕ) (q : sound s ≡ true) where
  -- an event that was called with a buffer and answered by its text
  event-means : (e : Event) (a : Result Answer Refusal) (lent lent' : List ℕ) → length reply' ≡ length reply → Called e s lent a s' lent'
      → ((x : List ℕ) → (step (view s) e).answer ≡ RuleAnswer.reply x → take (length x) reply' ≡ x)
      → Printed (printed a reply') out n out' → Means (answer_to (view s) e) reply out n s' reply' out'
  unfolding answer_to
  event-means e a lent lent' l c there p =
      let st = step (view s) e in
      let line : printed a reply' ≡ answer_line st.answer = ended-line st.box s lent a s' lent' st.answer reply' there (ended-sound s lent a s' lent' q e c) in
      record { prints = subst (λ (t : List ℕ). Printed t out n out') line p; left = left-sound s lent a s' lent' q e c; size = l }

  pub answered-means : (l : Line) → length reply ≡ reply_room → Answered l s reply out n s' reply' out' → Means (said (view s) l) reply out n s' reply' out'
  unfolding said
  answered-means (frame f) room p =
      let a = p.answers in
      let e = Event.frame f (length reply) in
      let st = step (view s) e in
      let ended = ended-sound s reply a.0 s' reply' q e a.1 in
      let there = ended-there st.box s reply a.0 s' reply' st.answer (frame-short s reply a.0 s' reply' f (length reply) a.1) (omega arith) ended in
      subst (λ (k : ℕ). Means (answer_to (view s) (Event.frame f k)) reply out n s' reply' out') room
      (event-means e a.0 reply reply' (ended-length st.box s reply a.0 s' reply' st.answer ended) a.1 there a.2)
  answered-means (sighting desk uid mask) room p =
      let a = p.answers in
      event-means (Event.sighting desk uid mask) a.0 [] [] (ap length a.2) a.1 (λ x is. absurd (sighting-no-reply (view s) desk uid mask x is))
      (rw a.2 a.3)
  answered-means tick room p =
      let a = p.answers in
      event-means Event.tick a.0 [] [] (ap length a.2) a.1 (λ x is. absurd (tick-no-reply (view s) x is)) (rw a.2 a.3)
  answered-means not_read room p =
      let a = p.answers in
      record { prints = a.2; left = record { still = ap sound a.0 ∙ q; says = ap view a.0 }; size = ap length a.1 }
