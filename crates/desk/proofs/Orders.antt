-- The order of tests, and what a command's answer is where they pass or fail. Assumes nothing.
use Rattle.std.specs.Prelude.{Some, None}
use Prim.Native.Nat.{ℕ}
use mathlib.Core.Path.{◌≡◌, ap, ◌∙◌}
use mathlib.Core.Bool.{true, false, not, ◌&&◌}
use mathlib.Core.List.{List, []}
use lib.ListN.{length}
use borrow.Author.Tests.{eq-eqb, ne_eqb}
use Rattle.octets.specs.Tests.{first}
use Rattle.frame.specs.declared.Kind.{Kind}
use Rattle.rules.specs.declared.control.Terms.{Terms}
use Rattle.rules.specs.Desk.{Desk}
use Rattle.rules.specs.Control.{terms_of, known, sized_for}
use Rattle.rules.specs.Command.{result, tests, unless, obey, answered}
use Rattle.records.specs.Obeyed.{ruled}

module _ (t : Terms) (own : t ≡ terms_of t.command) (body : List ℕ) where
  size_is : t.size ≡ (terms_of t.command).size
  size_is = ap (λ (x : Terms). x.size) own

  login-is : t.login ≡ (terms_of t.command).login
  login-is = ap (λ (x : Terms). x.login) own

  pub sized : length body ≡ t.size → sized_for t.command body ≡ true
  unfolding sized_for
  sized q = eq-eqb (length body) _ (q ∙ size_is)

module _ (t : Terms) (own : t ≡ terms_of t.command) (kind : Kind) (desk : Desk) (body : List ℕ) where
  pub obey-length : (length body ≡ t.size → ⊥) → obey (Some t) kind desk body ≡ result 0x81 [] desk
  unfolding obey tests first unless sized_for
  obey-length n = rw (ne_eqb (length body) (terms_of t.command).size (λ q. n (rw (size_is t own body) q)))

  pub obey-barred : length body ≡ t.size → t.login && not desk.logged_in ≡ true → obey (Some t) kind desk body ≡ result 0x13 [] desk
  unfolding obey tests first unless
  obey-barred q b = rw (sized t own body q, ← login-is t own body, b)

  pub obey-ruled : length body ≡ t.size → t.login && not desk.logged_in ≡ false → obey (Some t) kind desk body ≡ ruled t.command kind desk body
  unfolding obey tests first
  obey-ruled q b = rw (sized t own body q, ← login-is t own body, b)

module _ (kind : Kind) (desk : Desk) (control : ℕ) (body : List ℕ) where
  pub answered-unknown : known control ≡ None → answered kind desk control body ≡ result 0x80 [] desk
  unfolding answered obey
  answered-unknown e = rw e

  pub answered-listed : (t : Terms) → known control ≡ Some t → answered kind desk control body ≡ obey (Some t) kind desk body
  unfolding answered
  answered-listed t e = rw e
