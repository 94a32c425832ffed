-- Document 02 (iii): with TAB, scan lines open as columns. UID and timer are hex digits here: raw octets may hold a tabulator themselves. Assumes nothing.
use Prim.Native.Nat.{ℕ, ◌+◌, ◌/◌, ◌%◌}
use mathlib.Core.Path.{◌≡◌, refl, sym, ap, ◌∙◌}
use mathlib.Core.Bool.{Bool, true, false, cond}
use mathlib.Core.List.{List, [], ◌∷◌, ◌++◌, append_assoc, append-nil}
use native.Mathlib.Omega.{arith}
use borrow.Author.Tests.{ne_eqb}
use lib.ListN.{get_or}
use lib.Count.{count_trailing_zeros}
use lib.Dec.{ltb}
use Rattle.octets.specs.Parts.{part}
use Rattle.octets.proofs.Each.{all_append}
use Rattle.rules.specs.Line.{tab, marks, mark_of, digit, hex, shown, heading, separator, ending, line}
use Rattle.rules.specs.Columns.{tabulator, in_columns_from, in_columns, Unbroken, uid_digits, timer_digits}

-- ---- a text without a tabulator stays in the column that is begun

goes_on : (begun text rest : List ℕ) → Unbroken text → in_columns_from begun (text ++ rest) ≡ in_columns_from (begun ++ text) rest
unfolding in_columns_from
goes_on begun [] rest u = ap (λ (b : List ℕ). in_columns_from b rest) (sym (append-nil begun))
goes_on begun (c ∷ text) rest u =
    rw (ne_eqb c tabulator u.0) (goes_on (begun ++ (c ∷ [])) text rest u.1 ∙ ap (λ (b : List ℕ). in_columns_from b rest) (append_assoc begun (c ∷ []) text))

-- so it is one column, and the first where a tabulator follows
is_one : (text : List ℕ) → Unbroken text → in_columns text ≡ text ∷ []
unfolding in_columns_from
is_one text u = ap in_columns (sym (append-nil text)) ∙ goes_on [] text [] u

is-first : (text rest : List ℕ) → Unbroken text → in_columns (text ++ (tabulator ∷ [] ++ rest)) ≡ text ∷ in_columns rest
unfolding in_columns_from
is-first text rest u = goes_on [] text (tabulator ∷ rest) u

-- ---- hex digits hold none

digit-unbroken : (n : ℕ) → digit n ≡ tabulator → ⊥
unfolding digit
digit-unbroken n = go (ltb n 10)
  where
    go : (b : Bool) → cond b (0x30 + n) (0x37 + n) ≡ tabulator → ⊥
    go true e = omega arith
    go false e = omega arith

hex-unbroken : (s : List ℕ) → Unbroken (hex s)
unfolding hex
hex-unbroken [] = tt
hex-unbroken (b ∷ s) = (digit-unbroken (b / 16), (digit-unbroken (b % 16), hex-unbroken s))

-- and so they may follow
and-hex : (text s : List ℕ) → Unbroken text → Unbroken (text ++ hex s)
and-hex text s u = all_append _ text (hex s) u (hex-unbroken s)

-- ---- TAB in SEP-CHAR and in END-CHAR

tab-is : (char : ℕ) (user : List ℕ) → char ≡ 0x08 → mark_of char user ≡ tabulator ∷ []
unfolding mark_of marks tab count_trailing_zeros
tab-is char user e = rw e refl

-- DB-USE 2 writes hex digits, and the header has no tabulator
module _ (block r : List ℕ) (digits : get_or block 0 0 ≡ 2) (header : Unbroken (heading block)) where
  uid-unbroken : Unbroken (heading block ++ uid_digits r)
  uid-unbroken = and-hex (heading block) (part 0 8 r) header

  -- as separator: what stands before it is a column, and what stands behind it begins the next
  separated : get_or block 1 0 ≡ 0x08 → (rest : List ℕ) → in_columns (line block r ++ rest) ≡ (heading block ++ uid_digits r) ∷ in_columns (timer_digits r ++ (ending block ++ rest))
  unfolding line shown separator
  separated bit rest =
      let uid = heading block ++ uid_digits r in
      let behind = timer_digits r ++ (ending block ++ rest) in
      rw (digits, tab-is (get_or block 1 0) (part 2 1 block) bit)
      (ap in_columns
      (append_assoc (uid ++ (tabulator ∷ []) ++ timer_digits r) (ending block) rest
      ∙ append_assoc (uid ++ (tabulator ∷ [])) (timer_digits r) (ending block ++ rest)
      ∙ append_assoc uid (tabulator ∷ []) behind)
      ∙ is-first uid behind uid-unbroken)

  -- so there are two
  pub tab-separates : get_or block 1 0 ≡ 0x08 → Unbroken (ending block) → in_columns (line block r) ≡ (heading block ++ uid_digits r) ∷ (timer_digits r ++ ending block) ∷ []
  tab-separates bit end =
      ap in_columns (sym (append-nil (line block r))) ∙ separated bit []
      ∙ ap (λ (cs : List (List ℕ)). (heading block ++ uid_digits r) ∷ cs)
      (ap (λ (l : List ℕ). in_columns (timer_digits r ++ l)) (append-nil (ending block))
      ∙ is_one (timer_digits r ++ ending block) (all_append _ (timer_digits r) (ending block) (hex-unbroken (part 8 4 r)) end))

  -- as end: the line is a column, and what follows it begins the next
  pub tab-ends : get_or block 3 0 ≡ 0x08 → Unbroken (separator block) → (rest : List ℕ)
      → in_columns (line block r ++ rest) ≡ (heading block ++ uid_digits r ++ separator block ++ timer_digits r) ∷ in_columns rest
  unfolding line shown ending
  tab-ends bit sep rest =
      let uid = heading block ++ uid_digits r in
      let whole = uid ++ separator block ++ timer_digits r in
      rw (digits, tab-is (get_or block 3 0) _ bit)
      (ap in_columns (append_assoc whole (tabulator ∷ []) rest)
      ∙ is-first whole rest (and-hex (uid ++ separator block) (part 8 4 r) (all_append _ uid (separator block) uid-unbroken sep)))

  -- as both: UID and timer are a column each, and what follows the line begins the next
  pub tab-both : get_or block 1 0 ≡ 0x08 → get_or block 3 0 ≡ 0x08 → (rest : List ℕ) → in_columns (line block r ++ rest) ≡ (heading block ++ uid_digits r) ∷ timer_digits r ∷ in_columns rest
  unfolding ending
  tab-both sep end rest =
      separated sep rest
      ∙ ap (λ (cs : List (List ℕ)). (heading block ++ uid_digits r) ∷ cs)
      (rw (tab-is (get_or block 3 0) (part 4 _ block) end) (is-first (timer_digits r) rest (hex-unbroken (part 8 4 r))))

-- the user's octets stay as they are, 0x07 among them
pub user-stays : (user : List ℕ) → mark_of 0x80 user ≡ user
unfolding marks mark_of count_trailing_zeros
user-stays user = refl
