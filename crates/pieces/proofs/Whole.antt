-- The line from its pieces. Assumes nothing.
use Prim.Native.Nat.{ℕ, ◌+◌}
use mathlib.Core.Path.{◌≡◌, ap, ◌∙◌}
use mathlib.Core.List.{List, ◌++◌}
use native.Mathlib.Omega.{arith}
use lib.ListN.{length, length-append}
use Rattle.octets.specs.Parts.{put}
use Rattle.octets.proofs.Joins.{put_next}

-- five puts, each right behind the one before
pub five-puts : (a b c d e s p q r t u : List ℕ) (i j k l : ℕ)
    → p ≡ put 0 a s → i ≡ 0 + length a → q ≡ put i b p → j ≡ i + length b → r ≡ put j c q → k ≡ j + length c → t ≡ put k d r → l ≡ k + length d → u ≡ put l e t
    → u ≡ put 0 (a ++ b ++ c ++ d ++ e) s
five-puts a b c d e s p q r t u i j k l pe ie qe je re ke te le ue =
    let q' : q ≡ put 0 (a ++ b) s = qe ∙ ap (put i b) pe ∙ put_next a b s i (omega arith) in
    let r' : r ≡ put 0 (a ++ b ++ c) s = re ∙ ap (put j c) q' ∙ put_next (a ++ b) c s j (omega (arith, length-append a b)) in
    let t' : t ≡ put 0 (a ++ b ++ c ++ d) s = te ∙ ap (put k d) r' ∙ put_next (a ++ b ++ c) d s k (omega (arith, length-append (a ++ b) c, length-append a b)) in
    ue ∙ ap (put l e) t' ∙ put_next (a ++ b ++ c ++ d) e s l (omega (arith, length-append (a ++ b ++ c) d, length-append (a ++ b) c, length-append a b))
