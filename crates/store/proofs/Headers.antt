-- The numbers of the header, as the code reads them in the store. Assumes nothing.
use Prim.Native.Nat.{ℕ, zero, suc, ◌+◌, ◌-◌, ◌*◌, ◌≤◌, ◌<◌}
use mathlib.Core.Path.{◌≡◌, refl, ◌∙◌}
use mathlib.Core.List.{List}
use native.Mathlib.Nat.{zero-add}
use native.Mathlib.Omega.{arith}
use lib.Dec.{leb, lit≤}
use borrow.Author.Tests.{leb-true}
use Rattle.octets.specs.Tests.{every}
use Rattle.octets.specs.Numbers.{u16_at}
use Rattle.octets.proofs.Every.{every-at}
use Rattle.octets.proofs.Numbers.{u16_at-part}
use Rattle.store.specs.Layout.{store_size, area_count, used_at, header_size, size_of, header, start_of, used_of}

pub size_small : (k : ℕ) → k < area_count → size_of k ≤ store_size
unfolding every
size_small k l = leb-true _ _ (every-at area_count (λ k. leb (size_of k) store_size) k refl l)

-- a number of the header, read in the store
in-header : (i : ℕ) (s : List ℕ) → i + 2 ≤ header_size → u16_at i (header s) ≡ u16_at i s
unfolding header
in-header i s h = u16_at-part i 0 header_size s h ∙ rw zero-add

pub start-read : (s : List ℕ) (k : ℕ) → k < area_count → (k ≡ 0 → ⊥) → start_of (header s) k ≡ u16_at ((k - 1) * 2) s
unfolding start_of
start-read s zero l n = absurd (n refl)
start-read s (suc k) l n = let e : suc k - 1 ≡ k = omega arith in rw e (in-header (k * 2) s (omega arith))

pub used-read : (s : List ℕ) → used_of (header s) ≡ u16_at used_at s
unfolding used_of
used-read s = in-header used_at s (lit≤ tt)
