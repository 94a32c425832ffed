-- The outcomes of the two calls: refused with 6, refused with 7, written. Assumes nothing.
use Rattle.std.specs.Prelude.{Ok, Err}
use Prim.Native.Nat.{ℕ, ◌≤◌, ◌<◌}
use mathlib.Core.Path.{◌≡◌, refl, ap}
use mathlib.Core.Bool.{true, false}
use mathlib.Core.List.{List}
use borrow.Author.Tests.{lt-ltb, le-ltb}
use lib.ListN.{length}
use Rattle.octets.specs.Tests.{first}
use Rattle.octets.specs.Parts.{put}
use Rattle.frame.specs.declared.Refusal.TheVariants.{OutOfRange, NoRoom}
use Rattle.frame.proofs.Numbers.{refuses}
use Rattle.rules.specs.Config.{line_legal}
use Rattle.typed.specs.Typed.{read_data}
use Rattle.lines.specs.Lines.{line_refusals, Lined, lines_of, lines_refusals, AllLined}

module _ (block text out : List ℕ) where
  pub illegal : line_legal block ≡ false → Lined block text out (Err OutOfRange) out
  unfolding first line_refusals
  illegal e = rw e (record { outcome = (refuses Err OutOfRange, refl) })

  pub no_room_lem : line_legal block ≡ true → length out < length text → Lined block text out (Err NoRoom) out
  unfolding first line_refusals
  no_room_lem e h = rw (e, lt-ltb _ _ h) (record { outcome = (refuses Err NoRoom, refl) })

  pub done : (n : ℕ) (out' : List ℕ) → line_legal block ≡ true → length text ≤ length out → n ≡ length text → out' ≡ put 0 text out → Lined block text out (Ok n) out'
  unfolding first line_refusals
  done n out' e h q p = rw (e, le-ltb _ _ h) (record { outcome = (ap Ok q, p) })

-- ---- of many records

module _ (block sent out : List ℕ) where
  pub all-illegal : line_legal block ≡ false → AllLined block sent out (Err OutOfRange) out
  unfolding first lines_refusals
  all-illegal e = rw e (record { outcome = (refuses Err OutOfRange, refl) })

  module _ (legal : line_legal block ≡ true) where
    pub no-data : read_data sent ≡ false → AllLined block sent out (Err OutOfRange) out
    unfolding first lines_refusals
    no-data e = rw (legal, e) (record { outcome = (refuses Err OutOfRange, refl) })

    module _ (right : read_data sent ≡ true) where
      pub all-no-room : length out < length (lines_of block sent) → AllLined block sent out (Err NoRoom) out
      unfolding first lines_refusals
      all-no-room h = rw (legal, right, lt-ltb _ _ h) (record { outcome = (refuses Err NoRoom, refl) })

      pub all_done : (n : ℕ) (out' : List ℕ) → length (lines_of block sent) ≤ length out → n ≡ length (lines_of block sent) → out' ≡ put 0 (lines_of block sent) out
          → AllLined block sent out (Ok n) out'
      unfolding first lines_refusals
      all_done n out' h q p = rw (legal, right, le-ltb _ _ h) (record { outcome = (ap Ok q, p) })
