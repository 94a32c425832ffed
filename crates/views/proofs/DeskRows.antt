-- The row of a desk: its ten fields one after the other. It is as long as a row, is made of octets, says the desk, and has login and mark 0 or 1.
-- Assumes nothing.
use Prim.Native.Nat.{ℕ, ◌+◌, ◌≤◌, ◌<◌}
use mathlib.Core.Path.{◌≡◌, refl, sym, ap, ap₂, ◌∙◌}
use mathlib.Core.Bool.{Bool, true, false, cond}
use mathlib.Core.List.{List, [], ◌∷◌, ◌++◌, map, append_assoc}
use native.Mathlib.Omega.{arith}
use lib.Dec.{eqb, lit<, lit≤}
use lib.ListN.{length, get_or, replicate, length-append, length-replicate}
use Rattle.octets.specs.Parts.{part, put, joined}
use Rattle.octets.specs.Numbers.{number, octets}
use Rattle.octets.specs.Areas.{upto}
use Rattle.octets.specs.Each.{All, Octet}
use Rattle.octets.proofs.Each.{octets-put, octets-number, all_append, all_replicate}
use Rattle.octets.proofs.Puts.{put-length}
use Rattle.octets.proofs.Joins.{part-middle}
use Rattle.octets.proofs.Numbers.{octets-length, number-octets}
use Rattle.timer.specs.Clock.{timer_octets}
use Rattle.timer.proofs.Ranges.{timer-facts}
use Rattle.timer.proofs.ReadBack.{timer-length, timer-octets, timer-back}
use Rattle.locks.specs.declared.Lock.{Lock}
use Rattle.lockarea.specs.Area.{lock_octets, locks_in, locks_octets}
use Rattle.lockarea.proofs.Stored.{locks-put}
use Rattle.rules.specs.Desk.{Desk, fresh_desk}
use Rattle.rules.proofs.Computed.{computed}
use Rattle.rules.proofs.Facts.{DeskLegal}
use Rattle.fresh.specs.Fresh.{fresh_row}
use Rattle.store.specs.Layout.{row_width}
use Rattle.store.specs.Rows.{total, field_sizes, field_size, locks_field, field, fields, login_field, mark_field, field_count}
use Rattle.store.specs.View.{desk_of, desk_in}
use Rattle.store.proofs.Fields.{field-at}
use Rattle.store.proofs.Changes.{Flagged}

-- ---- lists put together, cut by their lengths

cut : ℕ → List ℕ → List ℕ → List (List ℕ)
cut at [] s = []
cut at (w ∷ ws) s = part at w s ∷ cut (at + w) ws s

cut-joined : (xs : List ℕ) (fs : List (List ℕ)) → cut (length xs) (map length fs) (xs ++ joined fs) ≡ fs
unfolding cut joined
cut-joined xs [] = refl
cut-joined xs (f ∷ fs) =
    rw (← append_assoc xs f (joined fs), ← length-append xs f)
    (ap₂ ◌∷◌ (part-middle xs f (joined fs) (length xs) (length f) refl refl) (cut-joined (xs ++ f) fs))

length-total : (fs : List (List ℕ)) → length (joined fs) ≡ total (map length fs)
unfolding joined
length-total [] = refl
length-total (f ∷ fs) = length-append f (joined fs) ∙ ap (λ (n : ℕ). length f + n) (length-total fs)

pub octets-joined : (fs : List (List ℕ)) → All (All Octet) fs → All Octet (joined fs)
unfolding joined
octets-joined [] p = tt
octets-joined (f ∷ fs) p = all_append Octet f (joined fs) p.0 (octets-joined fs p.1)

-- ---- fields that are as long as those of a row

module _ (fs : List (List ℕ)) (e : map length fs ≡ field_sizes) where
  together-length : length (joined fs) ≡ row_width
  together-length = length-total fs ∙ ap total e

  together-fields : fields (joined fs) ≡ fs
  unfolding fields field upto cut
  together-fields = ap (λ (ws : List ℕ). cut 0 ws (joined fs)) (sym e) ∙ cut-joined [] fs

-- ---- the fields of a desk

flag : Bool → ℕ
flag b = cond b 1 0

flag_small : (b : Bool) → flag b ≤ 1
unfolding flag
flag_small true = lit≤ tt
flag_small false = lit≤ tt

flag-back : (b : Bool) → eqb (flag b) 1 ≡ b
unfolding flag
flag-back true = refl
flag-back false = refl

abbrev locks_size : ℕ
locks_size = field_size locks_field

locks_padded : List Lock → List ℕ
locks_padded ls = put 0 (locks_octets ls) (replicate locks_size 0)

fields_of : Desk → List (List ℕ)
fields_of d =
    d.ram ∷ d.eeprom ∷ octets 2 d.valid ∷ octets 1 (flag d.logged_in) ∷ timer_octets d.timer ∷ octets 1 (flag d.table.overflow)
    ∷ octets 1 d.table.due ∷ octets 1 d.table.start ∷ octets 1 (length d.locks) ∷ locks_padded d.locks ∷ []

pub row_for : Desk → List ℕ
row_for d = joined (fields_of d)

padded-length : (ls : List Lock) → length (locks_padded ls) ≡ locks_size
unfolding locks_padded
padded-length ls = put-length 0 (locks_octets ls) (replicate locks_size 0) ∙ length-replicate {A = ℕ} locks_size 0

lock-octets : (ls : List Lock) → All (All Octet) (map lock_octets ls)
unfolding lock_octets
lock-octets [] = tt
lock-octets (l ∷ ls) = (all_append Octet (octets 8 l.uid) (octets 2 l.left) (octets-number 8 l.uid) (octets-number 2 l.left), lock-octets ls)

padded-octets : (ls : List Lock) → All Octet (locks_padded ls)
unfolding locks_padded locks_octets
padded-octets ls = octets-put 0 (locks_octets ls) (replicate locks_size 0) (octets-joined (map lock_octets ls) (lock-octets ls)) (all_replicate Octet locks_size 0 (lit< tt))

-- a number of one octet, read back
one-back : (x : ℕ) → x ≤ 255 → number (octets 1 x) ≡ x
one-back x h = number-octets 1 x (omega arith)

flag-number : (b : Bool) → number (octets 1 (flag b)) ≡ flag b
flag-number b = one-back (flag b) (omega (arith, flag_small b))

module _ (d : Desk) (p : DeskLegal d) where
  lengths : map length (fields_of d) ≡ field_sizes
  unfolding fields_of
  lengths = simp (p.ram.size, p.eeprom.size, octets-length, timer-length, padded-length)

  pub row-length : length (row_for d) ≡ row_width
  unfolding row_for
  row-length = together-length (fields_of d) lengths

  row-fields : fields (row_for d) ≡ fields_of d
  unfolding row_for
  row-fields = together-fields (fields_of d) lengths

  pub row-octets : All Octet (row_for d)
  unfolding row_for fields_of
  row-octets = octets-joined (fields_of d) (search (octets-number, padded-octets, p.ram.octets, p.eeprom.octets, timer-octets d.timer p.timer) depth 14)

  count-back : number (octets 1 (length d.locks)) ≡ length d.locks
  count-back = one-back (length d.locks) (omega (arith, p.locks.few))

  locks-back : locks_in (length d.locks) (locks_padded d.locks) ≡ d.locks
  unfolding locks_padded
  locks-back = locks-put d.locks (replicate locks_size 0) p.fit (omega (arith, p.locks.few, length-replicate {A = ℕ} locks_size 0))

  fields-say : desk_of (fields_of d) d.table.held ≡ d
  unfolding desk_of fields_of
  fields-say =
      rw (
        number-octets 2 d.valid p.valid,
        flag-number d.logged_in,
        flag-back d.logged_in,
        timer-back d.timer (omega (arith, (timer-facts d.timer p.timer).ms)),
        count-back,
        locks-back,
        flag-number d.table.overflow,
        flag-back d.table.overflow,
        one-back d.table.due (omega (arith, p.table.due, p.table.few)),
        one-back d.table.start (omega (arith, p.table.start)),
      )

  pub row-says : desk_in (row_for d) d.table.held ≡ d
  row-says = ap (λ (fs : List (List ℕ)). desk_of fs d.table.held) row-fields ∙ fields-say

  -- login and mark are 0 or 1
  flag_at : (k : ℕ) → k < field_count → (b : Bool) → get_or (fields_of d) k [] ≡ octets 1 (flag b) → number (field (row_for d) k) ≤ 1
  flag_at k l b e =
      rw (sym (field-at (row_for d) k l) ∙ ap (λ (fs : List (List ℕ)). get_or fs k []) row-fields ∙ e, flag-number b) (flag_small b)

  pub row-flags : Flagged (row_for d)
  unfolding fields_of
  row-flags =
      record { login = flag_at login_field (lit< tt) d.logged_in refl; mark = flag_at mark_field (lit< tt) d.table.overflow refl }

-- the row of a fresh desk, computed
pub fresh-row : row_for fresh_desk ≡ fresh_row
unfolding computed row_for fields_of flag locks_padded locks_octets fresh_row
fresh-row = refl
