-- Buckets for UIDs: one whose bucket is not taken stands nowhere in the list, and need not be looked for. Assumes nothing.
use Rattle.std.specs.Prelude.{ℕ, ◌%◌, ◌≡◌, Bool, true, false, List, get_or}
use Rattle.locks.specs.declared.Lock.{Lock}
use Rattle.locks.specs.Locks.{locked}

abbrev pub bucket_of : ℕ → ℕ
bucket_of uid = uid % 251

-- the bucket of each UID that stands in the list is taken
pub record Covered (taken : List Bool) (ls : List Lock) : Type 0 where
  pub each : (uid : ℕ) → locked uid ls ≡ true → get_or taken (bucket_of uid) false ≡ true
