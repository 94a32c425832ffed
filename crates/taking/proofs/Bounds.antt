-- How far a call goes: it takes no more than it is lent, of a part that has octets at least one, and what it writes lies in the output.
-- Assumes nothing.
use Prim.Native.Nat.{ℕ, suc, ◌+◌, ◌≤◌, ◌<◌}
use mathlib.Core.Path.{◌≡◌, refl, ap, subst, sym}
use mathlib.Core.Bool.{Bool, true, false, cond}
use mathlib.Core.List.{List, [], ◌∷◌}
use native.Mathlib.Omega.{arith}
use borrow.Author.Tests.{leb-true, leb-false}
use lib.Dec.{eqb, leb}
use lib.ListN.{length}
use Rattle.octets.proofs.Puts.{put-length}
use Rattle.text.specs.Listing.{longest_line}
use Rattle.feeding.specs.declared.Begun.{Begun}
use Rattle.feeding.specs.Feeding.{read_off}
use Rattle.readoff.specs.ReadOff.{ReadOff}
use Rattle.answering.proofs.Room.{answered-text}
use Rattle.turning.specs.Turning.{State, Takes, Ends}
use Rattle.taking.specs.Taking.{roomy, Took, TookPart, Finished}
use Rattle.turning.proofs.Turns.{takes-within}

pub record Bounds (part : List ℕ) (n : ℕ) (b : State) : Type 0 where
  pub most : n ≤ length part
  pub some : 0 < length part → 0 < n
  pub within : b.written ≤ length b.out

took-bounds : (part : List ℕ) (a : State) (n : ℕ) (b : State) → a.written ≤ length a.out → Took part a n b → (n ≤ length part) × (b.written ≤ length b.out)
unfolding Took roomy
took-bounds [] a n b h q = (omega (arith, q.0), subst (λ (x : State). x.written ≤ length x.out) (sym q.1) h)
took-bounds (c ∷ part) a n b h q = go (leb (a.written + longest_line) (length a.out)) refl (λ m k. took-bounds part m k b) q
  where
    go : (t : Bool) → leb (a.written + longest_line) (length a.out) ≡ t
        → ((m : State) (k : ℕ) → m.written ≤ length m.out → Took part m k b → (k ≤ length part) × (b.written ≤ length b.out))
        → cond t ((m : State) × (k : ℕ) × (n ≡ suc k) × Takes c a m × Took part m k b) ((n ≡ 0) × (b ≡ a)) → (n ≤ length (c ∷ part)) × (b.written ≤ length b.out)
    go true e then (m, k, is, one, rest) =
        let r = then m k (takes-within c a m (leb-true _ _ e) one) rest in
        (omega (arith, r.0), r.1)
    go false e then (is, same) = (omega arith, subst (λ (x : State). x.written ≤ length x.out) (sym same) h)

took-some : (part : List ℕ) (a : State) (n : ℕ) (b : State) → a.written + longest_line ≤ length a.out → Took part a n b → 0 < length part → 0 < n
unfolding Took roomy
took-some [] a n b room q h = absurd (omega arith)
took-some (c ∷ part) a n b room q h = go (leb (a.written + longest_line) (length a.out)) refl q
  where
    go : (t : Bool) → leb (a.written + longest_line) (length a.out) ≡ t
        → cond t ((m : State) × (k : ℕ) × (n ≡ suc k) × Takes c a m × Took part m k b) ((n ≡ 0) × (b ≡ a)) → 0 < n
    go true e (m, k, is, one, rest) = omega arith
    go false e r = absurd (omega (arith, leb-false (a.written + longest_line) (length a.out) e))

pub part-bounds : (part : List ℕ) (a : State) (n : ℕ) (b : State) → a.written ≡ 0 → TookPart part a n b → Bounds part n b
part-bounds part a n b none q =
    let size = q.sized.out-size in
    let both = took-bounds part a n b (omega arith) q.took in
    record { most = both.0; some = took-some part a n b (omega arith) q.took; within = both.1 }

-- what the end writes lies in the output too
pub finish-bounds : (line : Begun) (held s reply out : List ℕ) (n : ℕ) (s' reply' out' : List ℕ) → Finished line held s reply out n s' reply' out' → n ≤ length out'
unfolding Ends
finish-bounds line held s reply out n s' reply' out' q = go (eqb line.held 0) q.ends
  where
    go : (t : Bool) → cond t ((n ≡ 0) × (s' ≡ s) × (reply' ≡ reply) × (out' ≡ out)) (ReadOff line held s reply out n s' reply' out') → n ≤ length out'
    go true (none, _, _, _) = omega arith
    go false one =
        let t = answered-text (read_off line held) s reply out n s' reply' out' one.read in
        omega (arith, t.short, t.prints.count-is, ap length t.prints.output-is, put-length 0 t.text out, q.sized.out-size)
