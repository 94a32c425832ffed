-- A put within one field of a row is a change of the desk; changes one after the other are one. Assumes nothing.
use Prim.Native.Nat.{ℕ, ◌+◌, ◌≤◌, ◌<◌}
use mathlib.Core.Path.{◌≡◌, refl, sym, ap, ◌∙◌}
use mathlib.Core.Bool.{Bool, true, not, ◌||◌}
use mathlib.Core.List.{List, []}
use native.Mathlib.Decide.{ℕ_discrete}
use lib.Dec.{eqb, leb, lit<}
use lib.ListN.{length, get_or, set}
use lib.Seq.{get_or-set_same, get_or-set_other}
use borrow.Author.Tests.{leb-true}
use Rattle.octets.specs.Parts.{put}
use Rattle.octets.specs.Numbers.{number}
use Rattle.octets.specs.Areas.{upto}
use Rattle.octets.proofs.Puts.{put-length}
use Rattle.rules.specs.Desk.{Desk}
use Rattle.store.specs.Layout.{row_width}
use Rattle.store.specs.Rows.{field_at, field_size, fields}
use Rattle.store.specs.View.{desk_of, desk_in}
use Rattle.store.proofs.Fields.{fields-into, fields-over}
use Rattle.store.specs.Rows.{login_field, mark_field, field_count}
use Rattle.rows.specs.Change.{Fit, Change}

-- ---- none, and one after the other

pub change-none : (row : List ℕ) → Fit row → Change (λ d. d) row row
change-none row fit = record { fit = fit; means = λ rs. refl }

pub change-then : {f g : Desk → Desk} {a b c : List ℕ} → Change f a b → Change g b c → Change (λ d. g (f d)) a c
change-then {g = g} p q = record { fit = q.fit; means = λ rs. q.means rs ∙ ap g (p.means rs) }

-- the same change of this desk, in other words
pub change-as : {f g : Desk → Desk} {a b : List ℕ} → Change f a b → ((rs : List (List ℕ)) → f (desk_in a rs) ≡ g (desk_in a rs)) → Change g a b
change-as p e = record { fit = p.fit; means = λ rs. p.means rs ∙ e rs }

-- what is done to each fit row, and to its desk
abbrev pub Changes : (Desk → Desk) → (List ℕ → List ℕ) → Type 0
Changes f to = (row : List ℕ) → Fit row → Change f row (to row)

pub in-turn : {f g : Desk → Desk} {to on : List ℕ → List ℕ} → Changes f to → Changes g on → Changes (λ d. g (f d)) (λ row. on (to row))
in-turn p q row fit = change-then (p row fit) (q _ (p row fit).fit)

-- ---- one field

-- octets that field k may take: login and mark are 0 or 1
abbrev pub takes : ℕ → List ℕ → Bool
takes k xs = not (eqb k login_field || eqb k mark_field) || leb (number xs) 1

-- an element that is 0 or 1 is so still, where element k becomes y
still : (all : List (List ℕ)) (k j : ℕ) (y : List ℕ) → j < length all → (k ≡ j → number y ≤ 1) → number (get_or all j []) ≤ 1 → number (get_or (set all k y) j []) ≤ 1
still all k j y l new old =
    elim (ℕ_discrete j k) [
      | yes e ↦ rw (← e, get_or-set_same all j y [] l) (new (sym e))
      | no n ↦ rw (get_or-set_other all k j y [] n) old
    ]

module _ (g : Desk → Desk) (row : List ℕ) (fit : Fit row) (k : ℕ) where
  -- field k becomes y, and the others stay
  anew : (row' y : List ℕ) → length row' ≡ row_width → fields row' ≡ set (fields row) k y → takes k y ≡ true
      → ((rs : List (List ℕ)) → desk_of (set (fields row) k y) rs ≡ g (desk_in row rs)) → Change g row row'
  unfolding fields upto
  anew row' y size e t m =
      record {
        fit =
            record {
              size = size;
              login = rw (← e) at (still (fields row) k login_field y (lit< tt) (λ q. leb-true _ _ (rw q at t)) fit.login);
              mark = rw (← e) at (still (fields row) k mark_field y (lit< tt) (λ q. leb-true _ _ (rw q at t)) fit.mark);
            };
        means = λ rs. ap (λ (fs : List (List ℕ)). desk_of fs rs) e ∙ m rs;
      }

  -- octets o and further of field k
  pub into-change : (o : ℕ) (xs : List ℕ) → k < field_count → o + length xs ≤ field_size k → takes k (put o xs (get_or (fields row) k [])) ≡ true
      → ((rs : List (List ℕ)) → desk_of (set (fields row) k (put o xs (get_or (fields row) k []))) rs ≡ g (desk_in row rs))
      → Change g row (put (field_at k + o) xs row)
  into-change o xs l h = anew _ _ (put-length (field_at k + o) xs row ∙ fit.size) (fields-into row fit.size k o xs l h)

  -- the whole of field k
  pub over-change : (xs : List ℕ) → k < field_count → length xs ≡ field_size k → takes k xs ≡ true
      → ((rs : List (List ℕ)) → desk_of (set (fields row) k xs) rs ≡ g (desk_in row rs)) → Change g row (put (field_at k) xs row)
  over-change xs l h = anew _ _ (put-length (field_at k) xs row ∙ fit.size) (fields-over row fit.size k xs l h)
