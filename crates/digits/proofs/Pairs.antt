-- Hex digits, an octet at a time. Assumes nothing.
use Prim.Native.Nat.{ℕ, ◌+◌, ◌*◌, ◌/◌, ◌%◌, ◌<◌}
use mathlib.Core.Path.{◌≡◌, refl, sym, ◌∙◌}
use mathlib.Core.List.{List, [], ◌∷◌, ◌++◌}
use native.Mathlib.Numerals.{add-one}
use native.Mathlib.Omega.{arith}
use lib.ListN.{length, get_or, set, take}
use lib.Seq.{take-suc, length-take-le}
use Rattle.octets.specs.Parts.{put}
use Rattle.octets.proofs.Puts.{put-append}
use Rattle.octets.proofs.Joins.{put_two}
use Rattle.rules.specs.Line.{digit, hex}

pub hex-length : (s : List ℕ) → length (hex s) ≡ 2 * length s
unfolding hex
hex-length [] = refl
hex-length (x ∷ s) = omega (arith, hex-length s)

hex-append : (s t : List ℕ) → hex (s ++ t) ≡ hex s ++ hex t
unfolding hex
hex-append [] t = refl
hex-append (x ∷ s) t = rw (hex-append s t)

-- one octet more, as a loop writes them
pub hex-more : (at i : ℕ) (s out out' : List ℕ) (a b : ℕ) → i < length s
    → out' ≡ put at (hex (take i s)) out → a ≡ digit (get_or s i 0 / 16) → b ≡ digit (get_or s i 0 % 16)
    → set (set out' (at + 2 * i) a) (at + 2 * i + 1) b ≡ put at (hex (take (i + 1) s)) out
unfolding hex
hex-more at i s out out' a b h p q r =
    let l : length (hex (take i s)) ≡ 2 * i = hex-length (take i s) ∙ rw (length-take-le i s (omega arith)) in
    put_two (at + 2 * i) a b out'
    ∙ rw (p, q, r)
    (sym (rw (add-one i, take-suc s i 0 h, hex-append (take i s) (get_or s i 0 ∷ []), put-append, l)))
