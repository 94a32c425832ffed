-- The data of a request, where it is known what is asked. Assumes nothing.
use Prim.Native.Nat.{ℕ, ◌≤◌}
use mathlib.Core.Path.{◌≡◌, sym, ap, ◌∙◌}
use mathlib.Core.List.{List, []}
use lib.ListN.{length}
use Rattle.octets.specs.Parts.{put}
use Rattle.rules.specs.Config.{block_size}
use Rattle.requests.specs.declared.Ask.{Ask}
use Rattle.requests.specs.Request.{body_of}
use Rattle.requests.proofs.Asked.{size_of, body-size}

pub room_as : (a b : Ask) (bytes : List ℕ) (n : ℕ) → length bytes ≡ block_size → length (body_of a bytes) ≤ n → a ≡ b → size_of b ≤ n
room_as a b bytes n size h e = rw (← e, ← body-size a bytes size) h

pub data-as : (a b : Ask) (bytes out : List ℕ) → a ≡ b → put 0 (body_of b bytes) out ≡ put 0 (body_of a bytes) out
data-as a b bytes out e = ap (λ (x : Ask). put 0 (body_of x bytes) out) (sym e)

pub data-none : (a b : Ask) (bytes out : List ℕ) → a ≡ b → body_of b bytes ≡ [] → out ≡ put 0 (body_of a bytes) out
unfolding put
data-none a b bytes out e h = ap (λ (x : List ℕ). put 0 x out) (sym h) ∙ data-as a b bytes out e
