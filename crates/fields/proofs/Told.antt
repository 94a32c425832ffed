-- Numbers told typed, put into the output: a law for each way out. Assumes nothing.
use Rattle.std.specs.Prelude.{Result, Ok, Err}
use Prim.Native.Nat.{ℕ, ◌≤◌, ◌<◌}
use mathlib.Core.Path.{◌≡◌, refl, ap, ◌∙◌}
use mathlib.Core.Bool.{Bool}
use mathlib.Core.List.{List, ◌∷◌}
use mathlib.Core.Option.{Option}
use lib.ListN.{length}
use borrow.Author.Tests.{lt-ltb, le-ltb, le-leb, lt-leb}
use Rattle.octets.specs.Tests.{first}
use Rattle.octets.specs.Parts.{put}
use Rattle.frame.specs.declared.Refusal.{Refusal}
use Rattle.frame.specs.declared.Refusal.TheVariants.{OutOfRange, NoRoom}
use Rattle.frame.specs.Refusal.{number_of}
use Rattle.std.specs.Result.{MatchResult, IsOkAnd}
use Rattle.frame.specs.Finding.{refused, found, finding, verdict_of}
use Rattle.frame.proofs.Finding.{finding-found, finding-refused}
use Rattle.frame.proofs.Numbers.{refuses}
use Rattle.rules.specs.Output.{Wrote}
use Rattle.rules.specs.Records.{records_for}
use Rattle.typed.specs.Typed.{record_refusals, count_refusals}
use Rattle.fields.specs.Fields.{no_room, put_record_refusals}

-- so many numbers, of tests that come after that of the room
module _ (n : ℕ) (ts : List (ℕ × Bool)) (t out : List ℕ) where
  pub no_room_lem : length out < n → Wrote (first (no_room n out ∷ ts)) t out (Err NoRoom) out
  unfolding first
  no_room_lem h = rw (lt-ltb _ _ h) (record { outcome = (refuses Err NoRoom, refl) })

  module _ (room : n ≤ length out) where
    pub not-told : (r : Refusal) → refused (number_of r) ≡ finding (first ts) t → Wrote (first (no_room n out ∷ ts)) t out (Err r) out
    unfolding first
    not-told r e = rw (le-ltb _ _ room, finding-refused (first ts) t (number_of r) e) (record { outcome = (refuses Err r, refl) })

    pub told : (b out' : List ℕ) → found b ≡ finding (first ts) t → n ≡ length b → out' ≡ put 0 b out → Wrote (first (no_room n out ∷ ts)) t out (Ok n) out'
    unfolding first
    told b out' e l o =
        let u = finding-found (first ts) t b e in
        rw (le-ltb _ _ room, u.0) (record { outcome = (ap Ok (l ∙ ap length u.1), o ∙ ap (λ (x : List ℕ). put 0 x out) u.1) })

-- what was found is turned into numbers
pub turned : {A : Type 0} (f : A → List ℕ) (o : Option ℕ) (a : A) (r : Result A Refusal) (r' : Result (List ℕ) Refusal)
    → MatchResult r (λ x. IsOkAnd r' (λ y. y ≡ f x)) (λ e. r' ≡ Err e) → verdict_of r ≡ finding o a → verdict_of r' ≡ finding o (f a)
turned f o a (Ok x) (Ok y) m e = let u = finding-found o a x e in rw u.0 (ap found (m ∙ ap f u.1))
turned f o a (Ok x) (Err q) m e = absurd m
turned f o a (Err q) r' m e = rw (m, finding-refused o a (number_of q) e)

-- ---- record i, whose first test is that it is not beyond the last

module _ (sent : List ℕ) (i : ℕ) (t out : List ℕ) where
  pub beyond : records_for (length sent) ≤ i → Wrote (first (put_record_refusals sent i out)) t out (Err OutOfRange) out
  unfolding first
  beyond h = rw (le-leb _ _ h) (record { outcome = (refuses Err OutOfRange, refl) })

  pub within : (h : i < records_for (length sent)) → first (put_record_refusals sent i out) ≡ first (no_room 5 out ∷ count_refusals sent)
  unfolding first
  within h = rw (lt-leb _ _ h)

pub within-told : (sent : List ℕ) (i : ℕ) → i < records_for (length sent) → first (record_refusals sent i) ≡ first (count_refusals sent)
unfolding first record_refusals
within-told sent i h = rw (lt-leb _ _ h)
