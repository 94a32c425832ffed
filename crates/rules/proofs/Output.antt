-- Two outcomes that one promise allows are equal; where octets were written no test refused, and where it was refused nothing was written.
-- Assumes nothing.
use Rattle.std.specs.Prelude.{Result, Ok, Err}
use Prim.Native.Nat.{ℕ}
use mathlib.Core.Path.{◌≡◌, refl, sym, ap, ◌∙◌}
use mathlib.Core.List.{List}
use mathlib.Core.Option.{Option, none, some}
use native.Mathlib.Omega.{arith}
use lib.ListN.{length}
use Rattle.octets.specs.Parts.{put}
use Rattle.frame.specs.declared.Refusal.{Refusal}
use Rattle.frame.specs.Refusal.{number_of}
use Rattle.frame.proofs.Numbers.{refuses-once, refuses-number}
use Rattle.rules.specs.Output.{Wrote}

pub once : (refusal : Option ℕ) (t out : List ℕ) (a b : Result ℕ Refusal) (x y : List ℕ) → Wrote refusal t out a x → Wrote refusal t out b y → (a ≡ b) × (x ≡ y)
once none t out a b x y p q = (p.outcome.0 ∙ sym q.outcome.0, p.outcome.1 ∙ sym q.outcome.1)
once (some n) t out a b x y p q = (refuses-once Err n a b p.outcome.0 q.outcome.0, p.outcome.1 ∙ sym q.outcome.1)

pub wrote-octets : (refusal : Option ℕ) (t out : List ℕ) (n : ℕ) (out' : List ℕ) → Wrote refusal t out (Ok n) out'
    → (refusal ≡ none) × (n ≡ length t) × (out' ≡ put 0 t out)
wrote-octets none t out n out' w = let e : n ≡ length t = cc w.outcome.0 in (refl, e, w.outcome.1)
wrote-octets (some k) t out n out' w = let z : ◌≡◌ {A = ℕ} 0 1 = cc w.outcome.0.answer-is in absurd (omega arith)

pub wrote-refused : (refusal : Option ℕ) (t out : List ℕ) (a : Result ℕ Refusal) (out' : List ℕ) (r : Refusal) → Wrote refusal t out a out' → a ≡ Err r
    → (refusal ≡ some (number_of r)) × (out' ≡ out)
wrote-refused none t out a out' r w e = let z : ◌≡◌ {A = ℕ} 0 1 = cc w.outcome.0 in absurd (omega arith)
wrote-refused (some n) t out a out' r w e =
    let same : w.outcome.0.why ≡ r = cc w.outcome.0.answer-is in
    (ap some (refuses-number w.outcome.0.number_is same), w.outcome.1)
