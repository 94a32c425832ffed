-- The bytes of a block in any case: those that are there, or zeros. Assumes nothing.
use Rattle.std.specs.Prelude.{Result, Ok, Err}
use Rattle.std.specs.Result.{result_unwrap_or}
use Prim.Native.Nat.{ℕ}
use mathlib.Core.Path.{◌≡◌, refl, ap, ◌∙◌}
use mathlib.Core.Bool.{Bool, true, false, cond, not}
use mathlib.Core.List.{List}
use mathlib.Core.Option.{none, some}
use lib.Dec.{eqb}
use lib.ListN.{length, replicate}
use Rattle.octets.specs.Tests.{first}
use Rattle.frame.specs.declared.Refusal.{Refusal}
use Rattle.frame.specs.Finding.{Finding, refused, found, finding, verdict_of}
use Rattle.rules.specs.Config.{block_size}
use Rattle.typed.specs.Typed.{other_length, block_told, bytes_of}

-- what a finding holds, and else zeros
abbrev held : Finding (List ℕ) → List ℕ
held (found s) = s
held (refused n) = replicate block_size 0

held-is : (s : List ℕ) → held (block_told s) ≡ bytes_of s
unfolding block_told other_length first bytes_of
held-is s = go (eqb (length s) block_size)
  where
    go : (b : Bool) → held (finding (cond (not b) (some 8) none) s) ≡ cond b s (replicate block_size 0)
    go true = refl
    go false = refl

pub bytes-said : (r : Result (List ℕ) Refusal) (s b : List ℕ) → b ≡ result_unwrap_or r (replicate block_size 0) → verdict_of r ≡ block_told s → b ≡ bytes_of s
bytes-said (Ok x) s b h e = h ∙ ap held e ∙ held-is s
bytes-said (Err r) s b h e = h ∙ ap held e ∙ held-is s
