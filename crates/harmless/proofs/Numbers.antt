-- Demand 1 of the calls for C: a number from 1 to 63 is the first refusal of the call's list that is given, and a refused call leaves every
-- lent octet. Assumes nothing.
use Rattle.std.specs.Prelude.{Result, Ok, Err}
use Prim.Native.Nat.{ℕ}
use mathlib.Core.Path.{◌≡◌, refl, sym, ap, ◌∙◌}
use mathlib.Core.Bool.{Bool}
use mathlib.Core.List.{List}
use mathlib.Core.Option.{Option, none, some}
use native.Mathlib.Omega.{arith}
use Rattle.octets.specs.Tests.{first}
use Rattle.frame.specs.declared.Refusal.{Refusal}
use Rattle.frame.specs.Refusal.{number_of}
use Rattle.frame.specs.Finding.{finding}
use Rattle.frame.proofs.Numbers.{refuses-number}
use Rattle.rules.specs.declared.Seen.TheVariants.{Ignored, Lost, Recorded}
use Rattle.rules.specs.Box.{Event}
use Rattle.rules.proofs.Output.{wrote-refused}
use Rattle.events.specs.declared.Answer.{Answer}
use Rattle.depot.specs.Called.{test_refusals, TestedOf, fresh_refusals, MadeOf}
use Rattle.reader.specs.declared.Told.{Told}
use Rattle.reader.specs.Reader.{reader_refusals, read_as}
use Rattle.requests.specs.declared.Request.{Request}
use Rattle.codes.specs.Codes.{In, refused, written_code}
use Rattle.demands.specs.Answers.{tests_of}
use Rattle.demands.proofs.Listed.{refused-first}
use Rattle.depot_c.specs.Coded.{code_of, CalledAs, MadeAs, TestedAs}
use Rattle.host_c.specs.Coded.{read_code, WroteAs}

-- a number of that range is a refusal's
answer-refused : (a : Result Answer Refusal) (n : ℕ) → n ≡ code_of a → In refused n → (r : Refusal) × (a ≡ Err r) × (n ≡ number_of r)
answer-refused (Err r) n e h = (r, refl, e)
answer-refused (Ok (Answer.Reply k)) n e h = absurd (omega (arith, h.0, h.1))
answer-refused (Ok (Answer.Sighted (Ignored k))) n e h = absurd (omega (arith, h.0, h.1))
answer-refused (Ok (Answer.Sighted Lost)) n e h = absurd (omega (arith, h.0, h.1))
answer-refused (Ok (Answer.Sighted Recorded)) n e h = absurd (omega (arith, h.0, h.1))
answer-refused (Ok Answer.Done) n e h = absurd (omega (arith, h.0, h.1))

written-refused : (a : Result ℕ Refusal) (n : ℕ) → n ≡ written_code a → In refused n → (r : Refusal) × (a ≡ Err r) × (n ≡ number_of r)
written-refused (Err r) n e h = (r, refl, e)
written-refused (Ok k) n e h = absurd (omega (arith, h.0, h.1))

-- ---- the box

pub called-as-harmless : (e : Event) (s out : List ℕ) (n : ℕ) (s' out' : List ℕ) → CalledAs e s out n s' out' → In refused n
    → (first (tests_of s e) ≡ some n) × (s' ≡ s) × (out' ≡ out)
called-as-harmless e s out n s' out' c h =
    let x = answer-refused c.answer n c.code h in
    let y = refused-first e s out c.answer s' out' c.called x.0 x.1 in
    (y.0 ∙ ap some (sym x.2), y.1, y.2)

pub made-as-harmless : (s : List ℕ) (n : ℕ) (s' : List ℕ) → MadeAs s n s' → In refused n → (first (fresh_refusals s) ≡ some n) × (s' ≡ s)
made-as-harmless s n s' c h = let x = answer-refused c.answer n c.code h in go (first (fresh_refusals s)) x.0 x.1 x.2 c.made.made
  where
    go : (o : Option ℕ) (r : Refusal) → c.answer ≡ Err r → n ≡ number_of r → MadeOf o s c.answer s' → (o ≡ some n) × (s' ≡ s)
    go none r e q m = let z : ◌≡◌ {A = ℕ} 0 1 = cc m.0 in absurd (omega arith)
    go (some k) r e q m = let same : m.0.why ≡ r = cc m.0.answer-is in (ap some (refuses-number m.0.number_is same ∙ sym q), m.1)

pub tested-as-harmless : (s : List ℕ) (n : ℕ) → TestedAs s n → In refused n → first (test_refusals s) ≡ some n
tested-as-harmless s n c h = let x = answer-refused c.answer n c.code h in go (first (test_refusals s)) x.0 x.1 x.2 c.tested.tested
  where
    go : (o : Option ℕ) (r : Refusal) → c.answer ≡ Err r → n ≡ number_of r → TestedOf o c.answer → o ≡ some n
    go none r e q m = let z : ◌≡◌ {A = ℕ} 0 1 = cc m in absurd (omega arith)
    go (some k) r e q m = let same : m.why ≡ r = cc m.answer-is in ap some (refuses-number m.number_is same ∙ sym q)

-- ---- the host side: maker, line writer, typed access; and the reader

pub wrote-as-harmless : (ts : List (ℕ × Bool)) (t out : List ℕ) (n : ℕ) (out' : List ℕ) → WroteAs ts t out n out' → In refused n → (first ts ≡ some n) × (out' ≡ out)
wrote-as-harmless ts t out n out' w h =
    let x = written-refused w.answer n w.code h in
    let y = wrote-refused (first ts) t out w.answer out' x.0 w.wrote x.1 in
    (y.0 ∙ ap some (sym x.2), y.1)

pub read-as-harmless : (q : Request) (s : List ℕ) (n : ℕ) → n ≡ read_code (read_as q s) → In refused n → first (reader_refusals q s) ≡ some n
unfolding read_as
read-as-harmless q s n e h = go (first (reader_refusals q s)) _ e
  where
    go : (o : Option ℕ) (t : Told) → n ≡ read_code (finding o t) → o ≡ some n
    go none t e = absurd (omega (arith, h.0, h.1))
    go (some k) t e = ap some (sym e)
