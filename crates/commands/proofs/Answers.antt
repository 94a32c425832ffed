-- A command behind its own tests, and these from their answers. Assumes nothing.
use Prim.Native.Nat.{ℕ}
use mathlib.Core.Path.{◌≡◌, refl, sym, subst}
use mathlib.Core.Bool.{Bool, true, false, cond}
use mathlib.Core.List.{List, [], ◌∷◌}
use mathlib.Core.Option.{Option, none, some}
use lib.ListN.{length}
use native.Mathlib.Omega.{arith}
use lib.Seq.{take_all}
use borrow.Author.Tests.{eqb-true}
use Rattle.std.specs.Prelude.{Some, None, Option as Answer}
use Rattle.std.specs.Option.{option_or}
use Rattle.octets.specs.Tests.{first}
use Rattle.octets.specs.Parts.{part}
use Rattle.frame.specs.declared.Kind.{Kind}
use Rattle.rules.specs.declared.control.RowCommand.{RowCommand}
use Rattle.rules.specs.declared.control.Command.TheVariants.{OnRow}
use Rattle.rules.specs.Control.{terms_of, sized_for}
use Rattle.rules.specs.Command.{unless, row_tests}
use Rattle.rows.specs.Change.{Fit}
use Rattle.rows.proofs.Changes.{change-none}
use Rattle.effects.specs.declared.Reply.{Reply}
use Rattle.effects.specs.Obeyed.{Allowed, does, RowObeyed, RowQuiet}
use Rattle.effects.proofs.Answers.{quiet}
use Rattle.commands.specs.Ruled.{said, row_ruled}

-- all octets, as a part
pub part-whole : (n : ℕ) (s : List ℕ) → length s ≡ n → part 0 n s ≡ s
unfolding part
part-whole n s e = take_all n s (omega arith)

-- ---- the command

-- a command by another name for it
pub allowed-as : {c c' : RowCommand} {body : List ℕ} → c ≡ c' → Allowed c body → Allowed c' body
allowed-as e a = rw e at a

module _ {c c' : RowCommand} (body : List ℕ) (e : c ≡ c') {r : Reply} {row row' out : List ℕ} {kind : Kind} where
  pub obeyed-as : {out' : List ℕ} → RowObeyed kind (does c' body) r row row' out out' → RowObeyed kind (does c body) r row row' out out'
  obeyed-as o = rw e o

  pub quiet-as : RowQuiet (does c' body) r row row' → RowObeyed kind (does c body) r row row' out out
  quiet-as q = obeyed-as (q.obeyed kind out)

-- behind the command's own tests
module _ (c : RowCommand) (body : List ℕ) {r : Reply} {row out : List ℕ} {kind : Kind} where
  pub ruled-done : {row' out' : List ℕ} → first (row_tests c body) ≡ none → RowObeyed kind (does c body) r row row' out out' → RowObeyed kind (row_ruled c body) r row row' out out'
  unfolding unless
  ruled-done {row'} {out'} q o = subst (λ (t : Option ℕ). RowObeyed kind (λ d. unless t d (does c body d)) r row row' out out') (sym q) o

  -- the row is as it was
  pub ruled-refused : {row' : List ℕ} (status : ℕ) → first (row_tests c body) ≡ some status → Fit row → row' ≡ row → r ≡ record { status = status; len = 0 }
      → RowObeyed kind (row_ruled c body) r row row' out out
  unfolding unless
  ruled-refused status q fit same p = rw same ((quiet {answer = row_ruled c body} status (change-none row fit) p (λ rs. rw q)).obeyed kind out)

-- ---- the length of the data

pub sized-size : (c : RowCommand) (body : List ℕ) → sized_for (OnRow c) body ≡ true → length body ≡ (terms_of (OnRow c)).size
unfolding sized_for
sized-size c body e = eqb-true (length body) (terms_of (OnRow c)).size e

pub sized-as : {c c' : RowCommand} (body : List ℕ) → c ≡ c' → sized_for (OnRow c) body ≡ true → length body ≡ (terms_of (OnRow c')).size
sized-as {c} {c'} body e s = sized-size c' body (rw e at s)

-- ---- tests

pub tests-as : {c c' : RowCommand} (body : List ℕ) (status : Answer ℕ) → c ≡ c' → first (row_tests c' body) ≡ said status → first (row_tests c body) ≡ said status
tests-as body status e q = rw e q

-- of 0x11
pub one-test : (b : Bool) → first ((0x11, b) ∷ []) ≡ said (cond b (Some 0x11) None)
unfolding first said
one-test true = refl
one-test false = refl

-- of the two of a read, in their order
pub two-tests : (a p : Bool) → first ((0x11, a) ∷ (0x15, p) ∷ []) ≡ said (option_or (cond a (Some 0x11) None) (cond p (Some 0x15) None))
unfolding first said
two-tests true p = refl
two-tests false true = refl
two-tests false false = refl

-- of the three of a write, in their order
pub three-tests : (a p u : Bool) → first ((0x11, a) ∷ (0x16, p) ∷ (0x11, u) ∷ []) ≡ said (option_or (option_or (cond a (Some 0x11) None) (cond p (Some 0x16) None)) (cond u (Some 0x11) None))
unfolding first said
three-tests true p u = refl
three-tests false true u = refl
three-tests false false true = refl
three-tests false false false = refl
