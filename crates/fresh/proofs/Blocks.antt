-- A memory block by block: a table of blocks that are the defaults, and a memory that is written front to back. Assumes nothing.
use Prim.Native.Nat.{ℕ, ◌+◌, ◌*◌, ◌≤◌, ◌<◌}
use mathlib.Core.Path.{◌≡◌, refl, sym, ap, ◌∙◌}
use mathlib.Core.Bool.{Bool}
use mathlib.Core.List.{List, []}
use native.Mathlib.Omega.{arith}
use lib.ListN.{length, take, drop, get_or}
use lib.Seq.{length-take-le, take-add, take_all}
use Rattle.octets.specs.Parts.{part, put, alike}
use Rattle.octets.proofs.Alike.{alike-true}
use Rattle.octets.proofs.Every.{every-at}
use Rattle.octets.proofs.Joins.{put_next}
use Rattle.rules.specs.Config.{block_size, block_count, block_at, written, valid_of, default_blocks, defaults}
use Rattle.rules.proofs.Computed.{computed}
use Rattle.rules.proofs.Memories.{defaults-legal}

-- block k of the table is that of the defaults: one test over the table, and the rule at each block
block_right : ℕ → Bool
block_right k = alike (get_or default_blocks k []) (block_at k defaults)

pub default-at : (k : ℕ) → k < block_count → get_or default_blocks k [] ≡ block_at k defaults
unfolding computed block_right
default-at k l = alike-true _ _ (every-at block_count block_right k refl l)

-- block k of xs, behind the blocks before it
pub written_next : (k : ℕ) (xs m : List ℕ) → block_size * k ≤ length xs → written k (block_at k xs) (put 0 (take (block_size * k) xs) m) ≡ put 0 (take (block_size * (k + 1)) xs) m
unfolding written block_at part
written_next k xs m h =
    let e : block_size * (k + 1) ≡ block_size * k + block_size = omega arith in
    put_next (take (block_size * k) xs) (take block_size (drop (block_size * k) xs)) m (block_size * k) (length-take-le (block_size * k) xs h)
    ∙ ap (λ (ys : List ℕ). put 0 ys m) (sym (rw (e, take-add)))

-- all the blocks are the memory
pub written_all : (k : ℕ) (m : List ℕ) → k ≡ block_count → put 0 (take (block_size * k) defaults) m ≡ put 0 defaults m
written_all k m e = ap (λ (ys : List ℕ). put 0 ys m) (take_all (block_size * k) defaults (omega (arith, defaults-legal.size)))

pub valid-default : valid_of defaults ≡ 55
unfolding computed
valid-default = refl
