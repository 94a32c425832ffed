-- Laws of `records_of` and `without`, over any list of entries. Assumes nothing.
use mathlib.Core.Path.{◌≡◌, refl, sym, ap, ◌∙◌}
use Prim.Native.Nat.{ℕ, zero, suc, ◌+◌, ◌-◌, ◌≤◌, ◌<◌, min}
use native.Mathlib.Nat.{sub-zero, zero-sub, suc-sub-suc, min-zero, zero-min}
use native.Mathlib.Decide.{ℕ_discrete}
use native.Mathlib.Omega.{arith}
use mathlib.Core.Logic.{◌⊎◌, inl, inr}
use mathlib.Core.Bool.{Bool, true, false, cond}
use mathlib.Core.List.{List, [], ◌∷◌, ◌++◌, append-nil}
use lib.ListN.{length, drop, length-drop}
use lib.Seq.{drop-nil}
use lib.Dec.{eqb}
use borrow.Author.Tests.{eq-eqb, ne_eqb}
use Rattle.octets.proofs.Rows.{Wide}
use Rattle.table.specs.Entries.{owner, body, records_of, without}

-- ---- the records of a desk

-- one entry in front, by its owner
pub records_of-own : (d : ℕ) (e : List ℕ) (es : List (List ℕ)) → owner e ≡ d → records_of d (e ∷ es) ≡ body e ∷ records_of d es
unfolding records_of
records_of-own d e es h = rw (eq-eqb _ _ h)

pub records_of-other : (d : ℕ) (e : List ℕ) (es : List (List ℕ)) → (owner e ≡ d → ⊥) → records_of d (e ∷ es) ≡ records_of d es
unfolding records_of
records_of-other d e es h = rw (ne_eqb _ _ h)

pub records_of-append : (d : ℕ) (es fs : List (List ℕ)) → records_of d (es ++ fs) ≡ records_of d es ++ records_of d fs
unfolding records_of
records_of-append d [] fs = refl
records_of-append d (e ∷ es) fs = rw (records_of-append d es fs) (go (eqb (owner e) d))
  where
    go : (b : Bool) → cond b (body e ∷ (records_of d es ++ records_of d fs)) (records_of d es ++ records_of d fs) ≡ cond b (body e ∷ records_of d es) (records_of d es) ++ records_of d fs
    go true = refl
    go false = refl

-- one entry behind, by its owner
pub records_of-snoc-own : (d : ℕ) (es : List (List ℕ)) (e : List ℕ) → owner e ≡ d → records_of d (es ++ e ∷ []) ≡ records_of d es ++ body e ∷ []
unfolding records_of
records_of-snoc-own d es e h = records_of-append d es (e ∷ []) ∙ rw (records_of-own d e [] h)

pub records_of-snoc-other : (d : ℕ) (es : List (List ℕ)) (e : List ℕ) → (owner e ≡ d → ⊥) → records_of d (es ++ e ∷ []) ≡ records_of d es
unfolding records_of
records_of-snoc-other d es e h = records_of-append d es (e ∷ []) ∙ rw (records_of-other d e [] h, append-nil)

-- no more than the entries
pub records_of-length : (d : ℕ) (es : List (List ℕ)) → length (records_of d es) ≤ length es
unfolding records_of
records_of-length d [] = omega arith
records_of-length d (e ∷ es) = go (eqb (owner e) d) (records_of-length d es)
  where
    go : (b : Bool) → length (records_of d es) ≤ length es → length (cond b (body e ∷ records_of d es) (records_of d es)) ≤ suc (length es)
    go true h = omega arith
    go false h = omega arith

-- a record is an entry less its owner
pub records_of-wide : (w d : ℕ) (es : List (List ℕ)) → Wide (suc w) es → Wide w (records_of d es)
unfolding records_of Wide
records_of-wide w d [] h = tt
records_of-wide w d (e ∷ es) h = go (eqb (owner e) d) (records_of-wide w d es h.1)
  where
    go : (b : Bool) → Wide w (records_of d es) → Wide w (cond b (body e ∷ records_of d es) (records_of d es))
    go true k = (length-drop 1 e ∙ omega arith, k)
    go false k = k

-- ---- without some

-- one entry in front of what is removed from
pub without-zero : (d : ℕ) (es : List (List ℕ)) → without d zero es ≡ es
unfolding without
without-zero d [] = refl
without-zero d (e ∷ es) = refl

pub without-own : (d k : ℕ) (e : List ℕ) (es : List (List ℕ)) → owner e ≡ d → without d (suc k) (e ∷ es) ≡ without d k es
unfolding without
without-own d k e es h = rw (eq-eqb _ _ h)

pub without_other : (d k : ℕ) (e : List ℕ) (es : List (List ℕ)) → (owner e ≡ d → ⊥) → without d k (e ∷ es) ≡ e ∷ without d k es
unfolding without
without_other d zero e es h = ap (λ (r : List (List ℕ)). e ∷ r) (sym (without-zero d es))
without_other d (suc k) e es h = rw (ne_eqb _ _ h)

-- of one entry, the own goes and any other stays
pub without_gone : (d k : ℕ) (e : List ℕ) → 0 < k → owner e ≡ d → without d k (e ∷ []) ≡ []
unfolding without
without_gone d zero e p h = absurd (omega arith)
without_gone d (suc k) e p h = without-own d k e [] h

pub without-kept : (d k : ℕ) (e : List ℕ) → (k ≡ 0) ⊎ (owner e ≡ d → ⊥) → without d k (e ∷ []) ≡ e ∷ []
unfolding without
without-kept d k e (inl z) = rw z
without-kept d k e (inr h) = without_other d k e [] h

-- the desk loses its first k records
pub without-records : (d k : ℕ) (es : List (List ℕ)) → records_of d (without d k es) ≡ drop k (records_of d es)
unfolding records_of without
without-records d k [] = sym (drop-nil k)
without-records d zero (e ∷ es) = refl
without-records d (suc k) (e ∷ es) = go (ℕ_discrete (owner e) d) (without-records d k es) (without-records d (suc k) es)
  where
    go : Dec (owner e ≡ d) → records_of d (without d k es) ≡ drop k (records_of d es) → records_of d (without d (suc k) es) ≡ drop (suc k) (records_of d es)
        → records_of d (without d (suc k) (e ∷ es)) ≡ drop (suc k) (records_of d (e ∷ es))
    go (yes h) own other = rw (eq-eqb _ _ h) own
    go (no h) own other = rw (ne_eqb _ _ h, ne_eqb _ _ h) other

-- every other desk keeps its records
pub without-others : (d k c : ℕ) (es : List (List ℕ)) → (c ≡ d → ⊥) → records_of c (without d k es) ≡ records_of c es
unfolding records_of without
without-others d k c [] n = refl
without-others d zero c (e ∷ es) n = refl
without-others d (suc k) c (e ∷ es) n = go (ℕ_discrete (owner e) d) (without-others d k c es n) (without-others d (suc k) c es n)
  where
    go : Dec (owner e ≡ d) → records_of c (without d k es) ≡ records_of c es → records_of c (without d (suc k) es) ≡ records_of c es
        → records_of c (without d (suc k) (e ∷ es)) ≡ records_of c (e ∷ es)
    go (yes h) own other = rw (eq-eqb _ _ h, ne_eqb (owner e) c (λ q. n (sym q ∙ h))) own
    go (no h) own other = rw (ne_eqb _ _ h) (ap (λ (r : List (List ℕ)). cond (eqb (owner e) c) (body e ∷ r) r) other)

-- as many go as are asked for, or as many as there are
pub without-length : (d k : ℕ) (es : List (List ℕ)) → length (without d k es) + min k (length (records_of d es)) ≡ length es
unfolding records_of without
without-length d k [] = rw min-zero
without-length d zero (e ∷ es) = rw zero-min (omega arith)
without-length d (suc k) (e ∷ es) = go (ℕ_discrete (owner e) d) (without-length d k es) (without-length d (suc k) es)
  where
    go : Dec (owner e ≡ d) → length (without d k es) + min k (length (records_of d es)) ≡ length es
        → length (without d (suc k) es) + min (suc k) (length (records_of d es)) ≡ length es
        → length (without d (suc k) (e ∷ es)) + min (suc k) (length (records_of d (e ∷ es))) ≡ length (e ∷ es)
    go (yes h) own other = rw (eq-eqb _ _ h) (omega arith)
    go (no h) own other = rw (ne_eqb _ _ h) (omega arith)

-- what es leave to be removed is removed from fs
pub without-append : (d k : ℕ) (es fs : List (List ℕ)) → without d k (es ++ fs) ≡ without d k es ++ without d (k - length (records_of d es)) fs
unfolding records_of without
without-append d k [] fs = rw sub-zero
without-append d zero (e ∷ es) fs = rw (zero-sub, without-zero d fs)
without-append d (suc k) (e ∷ es) fs = go (ℕ_discrete (owner e) d) (without-append d k es fs) (without-append d (suc k) es fs)
  where
    go : Dec (owner e ≡ d) → without d k (es ++ fs) ≡ without d k es ++ without d (k - length (records_of d es)) fs
        → without d (suc k) (es ++ fs) ≡ without d (suc k) es ++ without d (suc k - length (records_of d es)) fs
        → without d (suc k) (e ∷ es ++ fs) ≡ without d (suc k) (e ∷ es) ++ without d (suc k - length (records_of d (e ∷ es))) fs
    go (yes h) own other = rw (eq-eqb _ _ h, suc-sub-suc) own
    go (no h) own other = rw (ne_eqb _ _ h) (ap (λ (r : List (List ℕ)). e ∷ r) other)

-- what is kept is as wide as it was
pub without-wide : (w d k : ℕ) (es : List (List ℕ)) → Wide w es → Wide w (without d k es)
unfolding without Wide
without-wide w d k [] h = tt
without-wide w d zero (e ∷ es) h = h
without-wide w d (suc k) (e ∷ es) h = go (eqb (owner e) d) (without-wide w d k es h.1) (without-wide w d (suc k) es h.1)
  where
    go : (b : Bool) → Wide w (without d k es) → Wide w (without d (suc k) es) → Wide w (cond b (without d k es) (e ∷ without d (suc k) es))
    go true own other = own
    go false own other = (h.0, other)
