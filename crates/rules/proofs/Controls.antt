-- The command table: what a control byte finds, and what it does not. Assumes nothing.
use Rattle.std.specs.Prelude.{Some, None}
use Prim.Native.Nat.{ℕ}
use mathlib.Core.Path.{◌≡◌, refl, sym, ap, subst}
use mathlib.Core.Bool.{Bool, true, false, cond}
use mathlib.Core.List.{List, [], ◌∷◌}
use native.Mathlib.Omega.{arith}
use lib.Dec.{eqb}
use borrow.Author.Tests.{ne_eqb}
use Rattle.octets.specs.Each.{All}
use Rattle.rules.specs.declared.control.Command.{Command}
use Rattle.rules.specs.declared.control.Terms.{Terms}
use Rattle.rules.specs.Control.{terms, columns, terms_of, commands, known_in, known}

-- ---- the terms of a command are its columns

pub listed : (c : Command) (control size : ℕ) (login : Bool) → columns c ≡ (control, size, login) → terms control size login c ≡ terms_of c
listed c control size login e = sym (ap (λ (x : ℕ × ℕ × Bool). terms x.0 x.1 x.2 c) e)

-- ---- a control byte that is no command's finds none

none_in : (cs : List Command) (control : ℕ) → All (λ (c : Command). control ≡ (terms_of c).control → ⊥) cs → known_in cs control ≡ None
unfolding known_in
none_in [] control h = refl
none_in (c ∷ cs) control h = rw (ne_eqb control (terms_of c).control h.0) (none_in cs control h.1)

pub unlisted : (control : ℕ) → All (λ (c : Command). control ≡ (terms_of c).control → ⊥) commands → known control ≡ None
unfolding known
unlisted control h = none_in commands control h

-- ---- what is found is the table's

pub found-terms : (control : ℕ) (t : Terms) → known control ≡ Some t → t ≡ terms_of t.command
unfolding known known_in
found-terms control t e = go commands e
  where
    same : (c : Command) → terms_of c ≡ t → t ≡ terms_of t.command
    same c q = subst (λ (x : Terms). x ≡ terms_of x.command) q refl

    turn : (c : Command) (cs : List Command) (b : Bool) → cond b (Some (terms_of c)) (known_in cs control) ≡ Some t
        → (known_in cs control ≡ Some t → t ≡ terms_of t.command) → t ≡ terms_of t.command
    turn c cs true q f = same c (cc)
    turn c cs false q f = f q

    go : (cs : List Command) → known_in cs control ≡ Some t → t ≡ terms_of t.command
    go [] q = let z : ◌≡◌ {A = ℕ} 0 1 = cc in absurd (omega arith)
    go (c ∷ cs) q = turn c cs (eqb control (terms_of c).control) q (go cs)
