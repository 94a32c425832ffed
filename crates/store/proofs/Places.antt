-- What the test of a header tells: each area lies inside the store, no two share an octet, the count is in range. Assumes nothing.
use Prim.Native.Nat.{ℕ, zero, suc, ◌+◌, ◌*◌, ◌≤◌, ◌<◌}
use mathlib.Core.Path.{◌≡◌, refl}
use mathlib.Core.List.{List}
use mathlib.Core.Bool.{true}
use lib.Dec.{leb}
use mathlib.Core.Logic.{inr}
use native.Mathlib.Omega.{arith}
use lib.ListN.{length}
use borrow.Author.Tests.{leb-true, le-leb}
use Rattle.octets.specs.Tests.{every}
use Rattle.octets.specs.Parts.{put, Apart}
use Rattle.octets.specs.Numbers.{octets}
use Rattle.octets.specs.Areas.{clear_below, clear}
use Rattle.octets.proofs.Tests.{both, and_both}
use Rattle.octets.proofs.Every.{every-at, every-all}
use Rattle.octets.proofs.Areas.{clear_apart, apart-clear}
use Rattle.octets.proofs.Numbers.{u16_at-away, u16_at-put}
use Rattle.table.specs.Entries.{entry_count}
use Rattle.store.specs.Layout.{store_size, size_of, start_of, used_of, area_count, header_size, used_at}
use Rattle.store.specs.Sound.{area_fits, fine}

pub record Fine (h : List ℕ) : Type 0 where
  pub within : (k : ℕ) → k < area_count → start_of h k + size_of k ≤ store_size
  pub apart : (i j : ℕ) → i < area_count → j < area_count → (i ≡ j → ⊥) → Apart (start_of h i) (size_of i) (start_of h j) (size_of j)
  pub used : used_of h ≤ entry_count

pub fine-facts : (h : List ℕ) → fine h ≡ true → Fine h
unfolding fine
fine-facts h e =
    let all = both (every area_count (area_fits h)) (leb (used_of h) entry_count) e in
    record {
      within = λ k l. leb-true _ _ (each all.0 k l).0;
      apart = clear_apart area_count (start_of h) size_of (every-all area_count _ (λ k l. (each all.0 k l).1));
      used = leb-true _ _ all.1;
    }
  where
    each : every area_count (area_fits h) ≡ true → (k : ℕ) → k < area_count → (leb (start_of h k + size_of k) store_size ≡ true) × (clear_below (start_of h) size_of k ≡ true)
    each q k l = both (leb (start_of h k + size_of k) store_size) (clear_below (start_of h) size_of k) (every-at area_count (area_fits h) k q l)

pub fine-test : (h : List ℕ) → Fine h → fine h ≡ true
unfolding fine
fine-test h f =
    let clears : clear area_count (start_of h) size_of ≡ true = apart-clear area_count (start_of h) size_of f.apart in
    and_both (every area_count (area_fits h)) (leb (used_of h) entry_count)
    (every-all area_count (area_fits h) (λ k l. and_both _ _ (le-leb _ _ (f.within k l)) (every-at area_count (clear_below (start_of h) size_of) k clears l)))
    (le-leb _ _ f.used)

-- a header that says the same places, and a count in range
same-places : (h h' : List ℕ) → Fine h → ((j : ℕ) → j < area_count → start_of h' j ≡ start_of h j) → used_of h' ≤ entry_count → Fine h'
same-places h h' f p c =
    record {
      within = λ j b. rw (p j b) (f.within j b);
      apart = λ i j bi bj ne. rw (p i bi, p j bj) (f.apart i j bi bj ne);
      used = c;
    }

-- ---- a header with another count

pub start-counted : (c : ℕ) (h : List ℕ) (j : ℕ) → j < area_count → start_of (put used_at (octets 2 c) h) j ≡ start_of h j
unfolding start_of
start-counted c h zero l = refl
start-counted c h (suc j) l = u16_at-away (j * 2) used_at (octets 2 c) h (inr (omega arith))

pub used-counted : (c : ℕ) (h : List ℕ) → c ≤ entry_count → length h ≡ header_size → used_of (put used_at (octets 2 c) h) ≡ c
unfolding used_of
used-counted c h few l = u16_at-put used_at c h (omega arith) (omega arith)

pub counted-fine : (c : ℕ) (h : List ℕ) → Fine h → c ≤ entry_count → length h ≡ header_size → Fine (put used_at (octets 2 c) h)
counted-fine c h f few l = same-places h _ f (start-counted c h) (rw (used-counted c h few l) few)
