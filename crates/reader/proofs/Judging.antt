-- What the reader answers, from the judge's verdict and from the tests that led there. Assumes nothing.
use Prim.Native.Nat.{ℕ, ◌+◌, ◌*◌, ◌≤◌}
use denote.Enum.Bare.{sameb}
use mathlib.Core.Path.{◌≡◌, refl, sym, ap, ◌∙◌}
use mathlib.Core.Bool.{Bool, true, false, not}
use mathlib.Core.List.{List, [], ◌∷◌}
use native.Mathlib.Omega.{arith}
use lib.Dec.{eqb}
use lib.ListN.{length}
use borrow.Author.Tests.{eq-eqb, ne_eqb}
use Rattle.octets.specs.Numbers.{u16_at}
use Rattle.table.specs.Entries.{record_width}
use Rattle.octets.specs.Tests.{first}
use Rattle.octets.proofs.Tests.{first-none, first-given}
use Rattle.frame.specs.contracts.Kind.{the_type}
use Rattle.frame.specs.declared.Kind.{Kind}
use Rattle.frame.specs.declared.Kind.TheVariants.{Standard, Advanced}
use Rattle.frame.specs.declared.Way.TheVariants.{Reply}
use Rattle.frame.specs.declared.Frame.{Frame}
use Rattle.frame.specs.Finding.{refused, found}
use Rattle.frame.specs.Judged.{faults, parts_of, data_of, judged}
use Rattle.frame.proofs.Verdict.{sound-parts, sound-first, refused-first}
use Rattle.requests.specs.declared.Request.{Request}
use Rattle.requests.specs.Request.{control_of}
use Rattle.possible.specs.Possible.{possible}
use Rattle.reader.specs.declared.Told.{Told}
use Rattle.reader.specs.Reader.{same_kind, told_of, count_right, answers_to, reader_refusals, read_as}

-- ---- the verdict

pub read-refused : (q : Request) (s : List ℕ) (n : ℕ) → judged Reply s ≡ refused n → refused n ≡ read_as q s
unfolding read_as reader_refusals
read-refused q s n e = rw (first-given n (faults Reply s) ((8, not (answers_to q (parts_of Reply s) s)) ∷ []) (refused-first Reply s n e))

module _ (q : Request) (s : List ℕ) (f : Frame) (is : judged Reply s ≡ found f) where
  only : first (reader_refusals q s) ≡ first ((8, not (answers_to q f s)) ∷ [])
  unfolding reader_refusals
  only =
      first-none (faults Reply s) ((8, not (answers_to q (parts_of Reply s) s)) ∷ []) (sound-first Reply s f is)
      ∙ ap (λ (p : Frame). first ((8, not (answers_to q p s)) ∷ [])) (sym (sound-parts Reply s f is))

  pub read_answer : (t : Told) → t ≡ told_of f s → answers_to q f s ≡ true → found t ≡ read_as q s
  unfolding read_as first
  read_answer t e a = rw (only, a, e, sound-parts Reply s f is)

  pub read-other : answers_to q f s ≡ false → refused 8 ≡ read_as q s
  unfolding read_as first
  read-other a = rw (only, a)

-- the data of a sound reply stand behind its status
pub reply-start : (s : List ℕ) (f : Frame) → judged Reply s ≡ found f → 1 ≤ f.start
unfolding parts_of
reply-start s f is = rw (sound-parts Reply s f is) (omega arith)

-- ---- the count

pub count-said : (control : ℕ) (sent : List ℕ) → control ≡ 0x22 → (length sent ≡ 0 → ⊥) → (n : ℕ) → n ≡ u16_at 0 sent → eqb (length sent) (2 + n * record_width) ≡ count_right control sent
unfolding count_right
count-said control sent is there n e = rw (is, ne_eqb _ _ there, e)

-- ---- the tests of a sound frame, one after the other

-- whether two kinds are one, as derived
pub kinds-same : (a b : Kind) → sameb the_type a b ≡ same_kind a b
kinds-same Standard Standard = refl
kinds-same Standard Advanced = refl
kinds-same Advanced Standard = refl
kinds-same Advanced Advanced = refl

pub not_true : (b : Bool) → not b ≡ true → b ≡ false
not_true true e = sym e
not_true false e = refl

module _ (q : Request) (f : Frame) (s : List ℕ) where
  pub other-kind : same_kind f.kind q.kind ≡ false → false ≡ answers_to q f s
  unfolding answers_to
  other-kind e = rw e

  module _ (kind : same_kind f.kind q.kind ≡ true) where
    pub other-desk : (f.address ≡ q.desk → ⊥) → false ≡ answers_to q f s
    unfolding answers_to
    other-desk h = rw (kind, ne_eqb _ _ h)

    module _ (desk : f.address ≡ q.desk) where
      pub other-control : (f.control ≡ control_of q.ask → ⊥) → false ≡ answers_to q f s
      unfolding answers_to
      other-control h = rw (kind, eq-eqb _ _ desk, ne_eqb _ _ h)

      module _ (control : f.control ≡ control_of q.ask) where
        pub not-possible : possible q (told_of f s).status f.len ≡ false → false ≡ answers_to q f s
        unfolding answers_to
        not-possible e = rw (kind, eq-eqb _ _ desk, eq-eqb _ _ control, e)

        pub by_count : possible q (told_of f s).status f.len ≡ true → (sent : List ℕ) → sent ≡ data_of f s → count_right f.control sent ≡ answers_to q f s
        unfolding answers_to
        by_count e sent h = rw (kind, eq-eqb _ _ desk, eq-eqb _ _ control, e, h)
