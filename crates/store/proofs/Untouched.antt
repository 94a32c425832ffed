-- What is written in an area, or as the count of entries, leaves the areas where they lie and the octets outside them; and so do two
-- changes one after the other. Assumes nothing.
use Prim.Native.Nat.{ℕ, zero, suc, ◌+◌, ◌*◌, ◌≤◌, ◌<◌}
use mathlib.Core.Path.{◌≡◌, refl, sym, ◌∙◌}
use mathlib.Core.Logic.{inr}
use mathlib.Core.List.{List}
use native.Mathlib.Omega.{arith}
use lib.Dec.{lit<}
use lib.ListN.{length, get_or}
use Rattle.octets.specs.Parts.{part}
use Rattle.octets.specs.Numbers.{octets, u16_at}
use Rattle.octets.proofs.Puts.{part-put-away, apart-within, octet-away}
use Rattle.octets.proofs.Numbers.{octets-length, u16_at-part}
use Rattle.store.specs.Layout.{recounted, area_count, used_at, header_size, header_area, size_of, header, start_of}
use Rattle.store.specs.Untouched.{Outside, Untouched}
use Rattle.store.proofs.Places.{Fine}
use Rattle.store.proofs.Changes.{into}

-- ---- each area begins where it began

-- an offset, read in the header and before the count
offset_read : (k : ℕ) (s : List ℕ) → suc k < area_count → u16_at (k * 2) (header s) ≡ u16_at (k * 2) (part 0 used_at s)
unfolding header
offset_read k s l = u16_at-part (k * 2) 0 header_size s (omega arith) ∙ sym (u16_at-part (k * 2) 0 used_at s (omega arith))

pub same-starts : (s s' : List ℕ) → Untouched s s' → (k : ℕ) → k < area_count → start_of (header s') k ≡ start_of (header s) k
unfolding start_of
same-starts s s' u zero l = refl
same-starts s s' u (suc k) l = offset_read k s' l ∙ rw u.offsets (sym (offset_read k s l))

-- ---- no change, and one after the other

pub untouched-same : (s : List ℕ) → Untouched s s
untouched-same s = record { offsets = refl; outside = λ i o. refl }

pub untouched-then : (s s' s'' : List ℕ) → Untouched s s' → Untouched s' s'' → Untouched s s''
untouched-then s s' s'' a b =
    record {
      offsets = b.offsets ∙ a.offsets;
      outside = λ i o. b.outside i (λ k l. rw (same-starts s s' a k l) (o k l)) ∙ a.outside i o;
    }

-- ---- a put in area k

-- an octet outside is none of those that are put
outside-away : (s : List ℕ) (k o : ℕ) (xs : List ℕ) → k < area_count → o + length xs ≤ size_of k → (i : ℕ) → Outside s i → get_or (into k o xs s) i 0 ≡ get_or s i 0
outside-away s k o xs l fit i out =
    octet-away i (start_of (header s) k + o) xs s (apart-within _ _ i 1 (start_of (header s) k + o) (length xs) i 1 (out k l) (omega arith) (omega arith) (omega arith) (omega arith))

pub untouched-into : (s : List ℕ) → Fine (header s) → (k o : ℕ) (xs : List ℕ) → k < area_count → 0 < k → o + length xs ≤ size_of k → Untouched s (into k o xs s)
unfolding start_of
untouched-into s f k o xs l pos fit =
    record {
      offsets =
          part-put-away 0 used_at (start_of (header s) k + o) xs s
          (apart-within (start_of (header s) k) (size_of k) 0 header_size (start_of (header s) k + o) (length xs) 0 used_at (f.apart k header_area l (lit< tt) (omega arith)) (omega arith) (omega arith) (omega arith) (omega arith));
      outside = outside-away s k o xs l fit;
    }

-- ---- another count of entries

pub untouched-count : (s : List ℕ) (n : ℕ) → Untouched s (recounted n s)
unfolding start_of
untouched-count s n =
    record {
      offsets = part-put-away 0 used_at used_at (octets 2 n) s (inr (omega arith));
      outside = outside-away s header_area used_at (octets 2 n) (lit< tt) (omega (arith, octets-length 2 n));
    }
