-- A frame of more octets than any may have is refused whatever its octets are, so two such are answered alike. Assumes nothing.
use Rattle.std.specs.Prelude.{Result}
use Prim.Native.Nat.{ℕ, ◌+◌, ◌/◌, ◌≤◌, ◌<◌, min}
use mathlib.Core.Path.{◌≡◌, refl, sym, ap, subst, ◌∙◌}
use mathlib.Core.List.{List}
use mathlib.Core.Option.{some}
use native.Mathlib.Decide.{dec_lt}
use native.Mathlib.Omega.{arith}
use lib.ListN.{length, take}
use lib.Seq.{length-take-le, take_all}
use Rattle.octets.specs.Tests.{first}
use Rattle.octets.specs.Parts.{part, put}
use Rattle.octets.proofs.Puts.{part-put-same}
use Rattle.frame.specs.declared.Refusal.{Refusal}
use Rattle.frame.specs.declared.Kind.{Kind}
use Rattle.frame.specs.declared.Kind.TheVariants.{Standard, Advanced}
use Rattle.frame.specs.declared.Way.TheVariants.{Request}
use Rattle.frame.specs.Shape.{overhead, reply_room}
use Rattle.frame.specs.Finding.{refused}
use Rattle.frame.specs.Judged.{kind_of, judged}
use Rattle.frame.proofs.Verdict.{long}
use Rattle.rules.specs.Box.{frame, Step, frame_refusals, unless_refused, step}
use Rattle.rules.proofs.Refusals.{small-buffer, judge-refused}
use Rattle.events.specs.declared.Answer.{Answer}
use Rattle.events.specs.Happened.{Ended}
use Rattle.depot.specs.Called.{step_on, Called}
use Rattle.frame.proofs.Bounds.{longest-fits}
use Rattle.digits.specs.Digits.{octets_of}
use Rattle.digits.proofs.Values.{octets-length}

short-overhead : (k : Kind) → overhead Request k ≤ reply_room
short-overhead Standard = omega arith
short-overhead Advanced = omega arith

pub too_long : (f : List ℕ) → reply_room < length f → judged Request f ≡ refused 32
too_long f h =
    sym (long Request f (kind_of f) refl (omega (arith, short-overhead (kind_of f))) (omega (arith, longest-fits (kind_of f))))

module _ (f g : List ℕ) (room : ℕ) (s : List ℕ) where
  refused-alike : (n : ℕ) → first (frame_refusals f room) ≡ some n → first (frame_refusals g room) ≡ some n → step_on s (frame f room) ≡ step_on s (frame g room)
  unfolding step_on step unless_refused
  refused-alike n p q = rw (p, q)

  long-alike : reply_room < length f → reply_room < length g → step_on s (frame f room) ≡ step_on s (frame g room)
  long-alike h l =
      elim (dec_lt room reply_room) [
        | yes n ↦ refused-alike 2 (small-buffer f room n) (small-buffer g room n)
        | no n ↦ refused-alike 32 (judge-refused f room (omega arith) 32 (too_long f h)) (judge-refused g room (omega arith) 32 (too_long g l))
      ]

  module _ (out : List ℕ) (a : Result Answer Refusal) (s' out' : List ℕ) where
    pub long-called : reply_room < length f → reply_room < length g → Called (frame f room) s out a s' out' → Called (frame g room) s out a s' out'
    long-called h l q = record { ended = subst (λ (x : Step). Ended x.answer x.box s out a s' out') (long-alike h l) q.ended }

-- octets that were put at the start are the first
first-put : (xs made made' : List ℕ) (n : ℕ) → length xs ≡ n → n ≤ length made → made' ≡ put 0 xs made → take n made' ≡ xs
unfolding part
first-put xs made made' n l h p = ap (take n) p ∙ rw (← l) (part-put-same 0 xs made (omega arith))

-- the digits t make a frame; the first of its octets were written and handed on
pub handed-on : (t made made' : List ℕ) (n room : ℕ) (s out : List ℕ) (a : Result Answer Refusal) (s' out' : List ℕ) → length made ≡ reply_room + 1 → n ≡ min (length t / 2) (length made)
    → made' ≡ put 0 (take n (octets_of t)) made → Called (frame (take n made') room) s out a s' out' → Called (frame (octets_of t) room) s out a s' out'
handed-on t made made' n room s out a s' out' e m p q =
    let l : length (take n (octets_of t)) ≡ n = length-take-le n (octets_of t) (omega (arith, octets-length t)) in
    let same : take n made' ≡ take n (octets_of t) = first-put (take n (octets_of t)) made made' n l (omega arith) p in
    let called : Called (frame (take n (octets_of t)) room) s out a s' out' = rw same at q in
    elim (dec_lt (reply_room + 1) (length t / 2)) [
      | yes h ↦ long-called (take n (octets_of t)) (octets_of t) room s out a s' out' (omega (arith, l)) (omega (arith, octets-length t)) called
      | no h ↦ rw (take_all n (octets_of t) (omega (arith, octets-length t))) at called
    ]
