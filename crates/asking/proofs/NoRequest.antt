-- What is no request is refused: by the maker with 6, after 5, and by the reader with 8, after the frame's faults. Assumes nothing.
use Rattle.std.specs.Prelude.{None}
use Prim.Native.Nat.{ℕ, ◌≤◌}
use mathlib.Core.Path.{◌≡◌, refl}
use mathlib.Core.Bool.{Bool, true, false, cond, and-false}
use mathlib.Core.List.{List, [], ◌∷◌, ◌++◌}
use mathlib.Core.Logic.{◌⊎◌, inl, inr}
use mathlib.Core.Option.{Option, some}
use borrow.Author.Tests.{le-ltb}
use Rattle.octets.specs.Tests.{first}
use Rattle.frame.specs.declared.Way.TheVariants.{Reply}
use Rattle.frame.specs.Judged.{faults}
use Rattle.rules.specs.Control.{commands, known_in, known}
use Rattle.rules.specs.Box.{no_desk}
use Rattle.requests.specs.declared.Request.{Request}
use Rattle.requests.specs.Request.{in_range}
use Rattle.maker.specs.Maker.{maker_refusals}
use Rattle.possible.specs.Possible.{possible}
use Rattle.reader.specs.Reader.{answers_to, reader_refusals}
use Rattle.codes.specs.Codes.{octet_of}
use Rattle.asking.specs.Numbers.{no_ask, whole, request_of}

-- no frame kind or no block beside a write; or a control byte that is none of the fourteen
pub no-ask : (kind desk control a b c : ℕ) (bytes : List ℕ) → (whole kind (octet_of control) bytes ≡ false) ⊎ (known (octet_of control) ≡ None) → (request_of kind desk control a b c bytes).ask ≡ no_ask
unfolding request_of
no-ask kind desk control a b c bytes (inl e) = rw e
no-ask kind desk control a b c bytes (inr e) = rw e (go (whole kind (octet_of control) bytes))
  where
    go : (w : Bool) → cond w no_ask no_ask ≡ no_ask
    go true = refl
    go false = refl

-- a number above 255 is no control byte
pub no-control : (control : ℕ) → 256 ≤ control → known (octet_of control) ≡ None
unfolding octet_of known known_in commands
no-control control h = rw (le-ltb control 256 h)

module _ (q : Request) (e : q.ask ≡ no_ask) where
  pub not_made : (room : ℕ) → first (maker_refusals q room) ≡ some (cond {A = ℕ} (no_desk q.desk) 5 6)
  unfolding maker_refusals in_range first
  not_made room = rw e (go (no_desk q.desk))
    where
      go : (b : Bool) → cond {A = Option ℕ} b (some 5) (some 6) ≡ some (cond {A = ℕ} b 5 6)
      go true = refl
      go false = refl

  pub not-read : (s : List ℕ) → first (reader_refusals q s) ≡ first (faults Reply s ++ ((8, true) ∷ []))
  unfolding reader_refusals answers_to possible
  not-read s = rw e (simp and-false)
