-- Octets of the length that they should have, or of another. Assumes nothing.
use Rattle.std.specs.Prelude.{Err}
use Prim.Native.Nat.{ℕ}
use mathlib.Core.Path.{◌≡◌, refl, sym}
use mathlib.Core.Bool.{Bool, true, false, not}
use mathlib.Core.List.{List, [], ◌∷◌}
use mathlib.Core.Option.{none, some, none-ne-some}
use lib.Dec.{eqb}
use lib.ListN.{length}
use borrow.Author.Tests.{eq-eqb, ne_eqb}
use Rattle.octets.specs.Tests.{first}
use Rattle.frame.specs.declared.Refusal.{Refusal}
use Rattle.frame.specs.Refusal.{number_of}
use Rattle.frame.specs.Finding.{refused, found, finding}
use Rattle.frame.proofs.Finding.{finding-found, finding-refused}
use Rattle.frame.proofs.Numbers.{refuses}
use Rattle.rules.specs.Output.{Wrote}
use Rattle.host_c.specs.Coded.{not_long}

module _ (size : ℕ) (s : List ℕ) (ts : List (ℕ × Bool)) where
  pub right-length : length s ≡ size → first (not_long size s ∷ ts) ≡ first ts
  unfolding first not_long
  right-length e = rw (eq-eqb _ _ e)

  pub wrong-length : (length s ≡ size → ⊥) → first (not_long size s ∷ ts) ≡ some 6
  unfolding first not_long
  wrong-length e = rw (ne_eqb _ _ e)

module _ (size : ℕ) (s : List ℕ) (ts : List (ℕ × Bool)) (t out : List ℕ) where
  passed : (b : Bool) → first {A = ℕ} ((6, b) ∷ []) ≡ none → first {A = ℕ} ((6, b) ∷ ts) ≡ first ts
  unfolding first
  passed true e = absurd (none-ne-some 6 (sym e))
  passed false e = refl

  given : (b : Bool) (n : ℕ) → first {A = ℕ} ((6, b) ∷ []) ≡ some n → first {A = ℕ} ((6, b) ∷ ts) ≡ some n
  unfolding first
  given true n e = e
  given false n e = absurd (none-ne-some n e)

  -- refused, and nothing written
  pub refused-length : (r : Refusal) → refused (number_of r) ≡ finding (first (not_long size s ∷ [])) s → Wrote (first (not_long size s ∷ ts)) t out (Err r) out
  unfolding not_long
  refused-length r e =
      rw (given (not (eqb (length s) size)) (number_of r) (finding-refused _ s (number_of r) e)) (record { outcome = (refuses Err r, refl) })

  -- of the right length: what the other tests say
  pub past-length : (b : List ℕ) → found b ≡ finding (first (not_long size s ∷ [])) s → (b ≡ s) × (first (not_long size s ∷ ts) ≡ first ts)
  unfolding not_long
  past-length b e =
      let u = finding-found (first {A = ℕ} ((6, not (eqb (length s) size)) ∷ [])) s b e in
      (u.1, passed (not (eqb (length s) size)) u.0)
