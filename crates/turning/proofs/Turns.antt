-- One octet more, as the code takes it, and where a call stops. Assumes nothing.
use Prim.Native.Nat.{ℕ, ◌+◌, ◌-◌, ◌≤◌}
use mathlib.Core.Path.{◌≡◌, refl, ap, subst, ◌∙◌}
use mathlib.Core.Bool.{Bool, true, false, cond}
use mathlib.Core.List.{List, ◌++◌}
use native.Mathlib.Omega.{arith}
use borrow.Author.Tests.{eq-eqb, ne_eqb}
use lib.ListN.{length, take, drop}
use lib.Dec.{eqb}
use Rattle.octets.proofs.Puts.{put-length}
use Rattle.octets.proofs.Lent.{put-mid}
use Rattle.text.specs.Listing.{longest_line}
use Rattle.text.specs.Whole.{lf}
use Rattle.digits.proofs.Values.{rest_of}
use Rattle.feeding.specs.declared.Begun.{Begun}
use Rattle.feeding.specs.Feeding.{none_fed, Feeds, read_off}
use Rattle.readoff.specs.ReadOff.{ReadOff}
use Rattle.answering.proofs.Room.{answered-text}
use Rattle.turning.specs.Turning.{State, lent, LineEnds, LineGoesOn, Takes, Ends}

-- ---- an octet, as the code takes it

module _ (line : Begun) (w : ℕ) (held s reply out : List ℕ) where
  pub goes_on : (c : ℕ) (line' : Begun) (held' : List ℕ) → (c ≡ lf → ⊥) → Feeds c line held line' held' → Takes c (lent line w held s reply out) (lent line' w held' s reply out)
  unfolding Takes
  goes_on c line' held' e f = rw (ne_eqb c lf e) (record { feeds = f; written_is = refl; store_is = refl; reply-is = refl; out-is = refl })

  module _ (n : ℕ) (s' reply' rest : List ℕ) where
    pub answer-short : (l : List ℕ) → ReadOff line held s reply l n s' reply' rest → n ≤ longest_line
    answer-short l q = let t = answered-text (read_off line held) s reply l n s' reply' rest q.read in omega (arith, t.prints.count-is, t.short)

    -- the line was answered in the rest of the output, which was lent
    ended : (next : Begun) (w' : ℕ) → next ≡ none_fed → w' ≡ w + n → w ≤ length out → ReadOff line held s reply (take (length out - w) (drop w out)) n s' reply' rest
        → LineEnds (lent line w held s reply out) (lent next w' held s' reply' (take w out ++ (rest ++ drop (length out - w) (drop w out))))
    ended next w' e f h q =
        let t = answered-text (read_off line held) s reply (take (length out - w) (drop w out)) n s' reply' rest q.read in
        record {
          count = n;
          rest = rest;
          answered = subst (λ (l : List ℕ). ReadOff line held s reply l n s' reply' rest) (rest_of w out) q;
          out-is = put-mid w (length out - w) rest out (ap length t.prints.output-is ∙ put-length 0 t.text (take (length out - w) (drop w out))) (omega arith);
          written_is = f;
          line-is = e;
          held-is = refl;
        }

    pub ends : (c : ℕ) (next : Begun) (w' : ℕ) → c ≡ lf → next ≡ none_fed → w' ≡ w + n → w ≤ length out → ReadOff line held s reply (take (length out - w) (drop w out)) n s' reply' rest
        → Takes c (lent line w held s reply out) (lent next w' held s' reply' (take w out ++ (rest ++ drop (length out - w) (drop w out))))
    unfolding Takes
    ends c next w' z e f h q = rw (eq-eqb c lf z) (ended next w' e f h q)

-- ---- the octets written lie in the output

module _ (c : ℕ) (a b : State) (room : a.written + longest_line ≤ length a.out) where
  ends-within : LineEnds a b → b.written ≤ length b.out
  ends-within q =
      let n = answer-short a.line a.written a.held a.store a.reply a.out q.count b.store b.reply q.rest (drop a.written a.out) q.answered in
      omega (arith, n, q.written_is, ap length q.out-is, put-length a.written q.rest a.out)

  goes-within : LineGoesOn c a b → b.written ≤ length b.out
  goes-within q = omega (arith, q.written_is, ap length q.out-is)

  pub takes-within : Takes c a b → b.written ≤ length b.out
  unfolding Takes
  takes-within q = go (eqb c lf) q
    where
      go : (t : Bool) → cond t (LineEnds a b) (LineGoesOn c a b) → b.written ≤ length b.out
      go true r = ends-within r
      go false r = goes-within r

-- ---- a part

module _ (line : Begun) (held s reply out : List ℕ) where
  pub none_left : line.held ≡ 0 → Ends line held s reply out 0 s reply out
  unfolding Ends
  none_left e = rw (eq-eqb line.held 0 e) (refl, refl, refl, refl)

  pub one_left : (n : ℕ) (s' reply' out' : List ℕ) → (line.held ≡ 0 → ⊥) → ReadOff line held s reply out n s' reply' out' → Ends line held s reply out n s' reply' out'
  unfolding Ends
  one_left n s' reply' out' e q = rw (ne_eqb line.held 0 e) q
