-- A frame is refused for its length as the table says, and with one of the four numbers for nothing else. Assumes nothing.
use Prim.Native.Nat.{ℕ, ◌+◌, ◌*◌, ◌≤◌, ◌<◌}
use mathlib.Core.Path.{◌≡◌, refl, sym, ap, ◌∙◌}
use mathlib.Core.Bool.{Bool, true, false, cond}
use mathlib.Core.List.{List}
use mathlib.Core.Option.{Option, none, some}
use native.Mathlib.Omega.{arith}
use lib.ListN.{length, get_or}
use lib.Dec.{leb, eqb}
use borrow.Author.Tests.{leb-true, leb-false, eqb-true, eqb-false, le-leb, lt-leb, eq-eqb, ne_eqb}
use Rattle.octets.specs.Tests.{first}
use Rattle.octets.proofs.Numbers.{u16_at-is}
use Rattle.crc.specs.Crc.{crc}
use Rattle.frame.specs.declared.Kind.{Kind}
use Rattle.frame.specs.declared.Kind.TheVariants.{Standard, Advanced}
use Rattle.frame.specs.declared.Way.{Way}
use Rattle.frame.specs.declared.Way.TheVariants.{Request}
use Rattle.frame.specs.declared.Frame.{Frame}
use Rattle.frame.specs.Shape.{shape_of, status_of, overhead}
use Rattle.frame.specs.Finding.{Finding, refused, number_in}
use Rattle.frame.specs.Judged.{kind_of, length_said, check_said, before_check, faults, parts_of, judged}
use Rattle.frame.specs.WhichLength.{Cell, field, column_of, advanced_row, never_row, standard_row, row_of, field_of, cell_gives, which_length, which_of, of_length}
use Rattle.frame.proofs.Bounds.{status-small}
use Rattle.frame.proofs.Finding.{number-found}
use Rattle.frame.proofs.Verdict.{empty, short, long, other, unchecked, sound}

-- a test is given, or not
either : {P : Type 0} (b : Bool) → (b ≡ true → P) → (b ≡ false → P) → P
either true t f = t refl
either false t f = f refl

split : {A : Type 0} (P : A → Type 0) (b : Bool) (x y : A) → (b ≡ true → P x) → (b ≡ false → P y) → P (cond b x y)
split P true x y t f = t refl
split P false x y t f = f refl

-- what holds in each column holds in that of n
module _ (w : Way) (n : ℕ) (P : ℕ → Type 0) where
  columns : (n ≡ 0 → P 0) → (1 ≤ n → n ≤ 4 + status_of w → P 1) → (5 + status_of w ≤ n → n ≤ 6 + status_of w → P 2) → (7 + status_of w ≤ n → n ≤ 255 → P 3)
      → (256 ≤ n → n ≤ (shape_of Advanced).longest → P 4) → ((shape_of Advanced).longest < n → P 5) → P (column_of w n)
  unfolding column_of
  columns c0 c1 c2 c3 c4 c5 =
      split P (leb n 0) _ _ (λ t. c0 (omega (arith, leb-true n 0 t))) (λ f0.
      split P (leb n (4 + status_of w)) _ _ (λ t. c1 (leb-false n 0 f0) (leb-true n _ t)) (λ f1.
      split P (leb n (6 + status_of w)) _ _ (λ t. c2 (omega (arith, leb-false n _ f1)) (leb-true n _ t)) (λ f2.
      split P (leb n 255) _ _ (λ t. c3 (omega (arith, leb-false n _ f2)) (leb-true n _ t)) (λ f3.
      split P (leb n (shape_of Advanced).longest) _ _ (λ t. c4 (leb-false n _ f3) (leb-true n _ t)) (λ f4. c5 (leb-false n _ f4))))))

module _ (w : Way) (f : List ℕ) where
  abbrev told : Option ℕ
  told = of_length (number_in (judged w f))

  so : {x : Finding Frame} → x ≡ judged w f → told ≡ of_length (number_in x)
  so e = sym (ap (λ (j : Finding Frame). of_length (number_in j)) e)

  -- a cell of a row
  abbrev Says : List Cell → ℕ → ℕ → Type 0
  Says row said column = told ≡ cell_gives (get_or row column field) said (length f)

  -- as many octets as the kind allows: the length field decides
  by_field : (k : Kind) (said : ℕ) → k ≡ kind_of f → length_said k f ≡ said → overhead w k ≤ length f → length f ≤ (shape_of k).longest
      → told ≡ cond (eqb said (length f)) none (some 33)
  by_field k said is e enough within =
      split (λ (o : Option ℕ). told ≡ o) (eqb said (length f)) none (some 33)
      (λ t.
      let right = e ∙ eqb-true said (length f) t in
      either (eqb (check_said f) (crc (before_check f)))
      (λ c. so (sound w f k is enough within right (eqb-true _ _ c)))
      (λ c. so (unchecked w f k is enough within right (eqb-false _ _ c))))
      (λ t. so (other w f k is enough within (λ r. eqb-false said (length f) t (sym e ∙ r))))

  -- ---- the rows

  advanced : get_or f 0 0 ≡ 2 → told ≡ which_of w f
  unfolding which_length row_of field_of
  advanced e =
      let small = status-small w in
      let k : Advanced ≡ kind_of f = unfold kind_of in rw (eq-eqb (get_or f 0 0) 2 e) in
      let said : 3 ≤ length f → length_said Advanced f ≡ get_or f 1 0 * 256 + get_or f 2 0 = λ h. unfold length_said in u16_at-is 1 f h in
      rw (eq-eqb (get_or f 0 0) 2 e)
      (columns w (length f) (Says advanced_row (get_or f 1 0 * 256 + get_or f 2 0))
      (λ z. so (empty w f z))
      (λ a b. so (short w f Advanced k a (omega arith)))
      (λ a b. so (short w f Advanced k (omega arith) (omega arith)))
      (λ a b. by_field Advanced _ k (said (omega arith)) (omega arith) (omega arith))
      (λ a b. by_field Advanced _ k (said (omega arith)) (omega arith) (omega arith))
      (λ a. so (long w f Advanced k (omega arith) (omega arith))))

  module _ (ne : get_or f 0 0 ≡ 2 → ⊥) where
    is-standard : Standard ≡ kind_of f
    unfolding kind_of
    is-standard = rw (ne_eqb (get_or f 0 0) 2 ne)

    said-first : length_said Standard f ≡ get_or f 0 0
    unfolding length_said
    said-first = refl

    -- a field below the shortest differs from every number of octets that a standard frame can have
    never : get_or f 0 0 ≤ 4 + status_of w → told ≡ which_of w f
    unfolding which_length row_of field_of
    never low =
        let small = status-small w in
        let differs : 5 + status_of w ≤ length f → length f ≤ 255 → told ≡ some 33 =
        λ l h. so (other w f Standard is-standard (omega arith) (omega arith) (λ e. omega (arith, said-first, low))) in
        rw (ne_eqb (get_or f 0 0) 2 ne, le-leb (get_or f 0 0) (4 + status_of w) low)
        (columns w (length f) (Says never_row (get_or f 0 0))
        (λ z. so (empty w f z))
        (λ a b. so (short w f Standard is-standard a (omega arith)))
        (λ a b. differs a (omega arith))
        (λ a b. differs (omega arith) b)
        (λ a b. so (long w f Standard is-standard (omega arith) (omega arith)))
        (λ a. so (long w f Standard is-standard (omega arith) (omega arith))))

    standard : 4 + status_of w < get_or f 0 0 → told ≡ which_of w f
    unfolding which_length row_of field_of
    standard high =
        let small = status-small w in
        rw (ne_eqb (get_or f 0 0) 2 ne, lt-leb (get_or f 0 0) (4 + status_of w) high)
        (columns w (length f) (Says standard_row (get_or f 0 0))
        (λ z. so (empty w f z))
        (λ a b. so (short w f Standard is-standard a (omega arith)))
        (λ a b. by_field Standard _ is-standard said-first a (omega arith))
        (λ a b. by_field Standard _ is-standard said-first (omega arith) b)
        (λ a b. so (long w f Standard is-standard (omega arith) (omega arith)))
        (λ a. so (long w f Standard is-standard (omega arith) (omega arith))))

-- what a received frame is found to be
pub which-length : (w : Way) (f : List ℕ) → of_length (number_in (judged w f)) ≡ which_of w f
which-length w f =
    either (eqb (get_or f 0 0) 2)
    (λ e. advanced w f (eqb-true _ _ e))
    (λ e.
    let ne = eqb-false (get_or f 0 0) 2 e in
    either (leb (get_or f 0 0) (4 + status_of w))
    (λ l. never w f ne (leb-true _ _ l))
    (λ l. standard w f ne (leb-false _ _ l)))

-- the same of its faults
pub which-fault : (w : Way) (f : List ℕ) → of_length (first (faults w f)) ≡ which_of w f
unfolding judged
which-fault w f = sym (ap of_length (number-found (first (faults w f)) (parts_of w f))) ∙ which-length w f

-- "In a frame to the box of 5 to 255 octets, a first octet below 5 other than 2 is 33"
pub below-5 : (f : List ℕ) → 5 ≤ length f → length f ≤ 255 → get_or f 0 0 < 5 → (get_or f 0 0 ≡ 2 → ⊥) → judged Request f ≡ refused 33
below-5 f least most low ne =
    sym (other Request f Standard (is-standard Request f ne) (omega arith) (omega arith) (λ e. omega (arith, said-first Request f ne, low)))
