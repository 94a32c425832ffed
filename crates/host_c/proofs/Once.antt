-- Two outcomes that one promise allows are equal: the number, and what the output holds. Assumes nothing.
use Prim.Native.Nat.{ℕ}
use mathlib.Core.Path.{◌≡◌, sym, ap, ◌∙◌}
use mathlib.Core.Bool.{Bool}
use mathlib.Core.List.{List}
use Rattle.octets.specs.Tests.{first}
use Rattle.rules.proofs.Output.{once as wrote-once}
use Rattle.codes.specs.Codes.{written_code}
use Rattle.host_c.specs.Coded.{WroteAs}

module _ (n m : ℕ) where
  pub wrote-as-once : (ts : List (ℕ × Bool)) (t out x y : List ℕ) → WroteAs ts t out n x → WroteAs ts t out m y → (n ≡ m) × (x ≡ y)
  wrote-as-once ts t out x y p q =
      let same = wrote-once (first ts) t out p.answer q.answer x y p.wrote q.wrote in
      (p.code ∙ ap written_code same.0 ∙ sym q.code, same.1)
