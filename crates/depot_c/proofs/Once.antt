-- Two outcomes that one promise allows are equal: the number, the output's octets, and what the store says. Assumes nothing.
use Prim.Native.Nat.{ℕ}
use mathlib.Core.Path.{◌≡◌, sym, ap, ◌∙◌}
use mathlib.Core.List.{List}
use Rattle.rules.specs.Box.{Event}
use Rattle.store.specs.View.{view}
use Rattle.depot.proofs.Once.{once, made-once, tested-once}
use Rattle.depot_c.specs.Coded.{code_of, CalledAs, MadeAs, TestedAs}

module _ (n m : ℕ) where
  pub called-as-once : (e : Event) (s out s' s'' out' out'' : List ℕ) → CalledAs e s out n s' out' → CalledAs e s out m s'' out'' → (n ≡ m) × (out' ≡ out'') × (view s' ≡ view s'')
  called-as-once e s out s' s'' out' out'' p q =
      let same = once e s out p.answer q.answer s' s'' out' out'' p.called q.called in
      (p.code ∙ ap code_of same.answers ∙ sym q.code, same.outputs, same.stores.views)

  pub made-as-once : (s s' s'' : List ℕ) → MadeAs s n s' → MadeAs s m s'' → (n ≡ m) × (s' ≡ s'')
  made-as-once s s' s'' p q =
      let same = made-once s p.answer q.answer s' s'' p.made q.made in
      (p.code ∙ ap code_of same.0 ∙ sym q.code, same.1)

  pub tested-as-once : (s : List ℕ) → TestedAs s n → TestedAs s m → n ≡ m
  tested-as-once s p q = p.code ∙ ap code_of (tested-once s p.answer q.answer p.tested q.tested) ∙ sym q.code
