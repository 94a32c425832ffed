-- What a desk does with a request: its control byte is known and its length right, so login comes first and then the command's own rule.
-- Assumes nothing.
use Rattle.std.specs.Prelude.{Some}
use Prim.Native.Nat.{ℕ}
use mathlib.Core.Path.{◌≡◌, refl, ap, ◌∙◌}
use mathlib.Core.Bool.{true, false, not, ◌&&◌}
use mathlib.Core.List.{List, []}
use native.Mathlib.Omega.{arith}
use lib.ListN.{length}
use borrow.Author.Tests.{eq-eqb}
use Rattle.octets.specs.Tests.{first}
use Rattle.octets.proofs.Numbers.{octets-length}
use Rattle.rules.specs.Config.{block_size}
use Rattle.rules.specs.Control.{terms_of, sized_for}
use Rattle.rules.proofs.Commands.{control-finds}
use Rattle.rules.specs.Desk.{Desk}
use Rattle.rules.specs.Command.{own_tests, Result, result, effect, tests, unless, obey, answered}
use Rattle.requests.specs.declared.Ask.{Ask}
use Rattle.requests.specs.declared.Ask.TheVariants.{Baud, Reset, SystemReset, ReadBlock, WriteBlock, SaveBlocks, RestoreBlocks, SetTimer, SendTimer, Login, ReadRecords, SendTable, RemoveRecords, ClearRecords}
use Rattle.requests.specs.declared.Request.{Request}
use Rattle.requests.specs.Request.{command_of, control_of, body_of, data_for, needs_login}

-- how many octets of data the table lists for it
abbrev pub size_of : Ask → ℕ
size_of a = (terms_of (command_of a)).size

pub body-size : (a : Ask) (bytes : List ℕ) → length bytes ≡ block_size → length (body_of a bytes) ≡ size_of a
body-size (Baud n) bytes e = refl
body-size Reset bytes e = refl
body-size SystemReset bytes e = refl
body-size (ReadBlock adr) bytes e = refl
body-size (WriteBlock adr) bytes e = omega arith
body-size (SaveBlocks adr) bytes e = refl
body-size (RestoreBlocks adr) bytes e = refl
body-size (SetTimer h m ms) bytes e = omega (arith, octets-length 2 ms)
body-size SendTimer bytes e = refl
body-size (Login password) bytes e = octets-length 4 password
body-size (ReadRecords k) bytes e = octets-length 2 k
body-size SendTable bytes e = refl
body-size RemoveRecords bytes e = refl
body-size ClearRecords bytes e = refl

-- what the desk answers to it
abbrev pub answer_to : Request → Desk → Result
answer_to q d = answered q.kind d (control_of q.ask) (data_for q)

-- the command's own rule, and then what it does
abbrev pub own_answer : Request → Desk → Result
own_answer q d = unless (first (own_tests (command_of q.ask) q.kind d (data_for q))) d (effect (command_of q.ask) q.kind d (data_for q))

module _ (q : Request) (d : Desk) (size : length q.bytes ≡ block_size) where
  in_order : answer_to q d ≡ obey (Some (terms_of (command_of q.ask))) q.kind d (data_for q)
  unfolding answered
  in_order = ap (λ r. obey r q.kind d (data_for q)) (control-finds (command_of q.ask))

  pub asked-barred : needs_login q.ask && not d.logged_in ≡ true → answer_to q d ≡ result 0x13 [] d
  unfolding obey unless tests first sized_for
  asked-barred e = in_order ∙ rw (eq-eqb _ _ (body-size q.ask q.bytes size), e)

  pub asked-open : needs_login q.ask && not d.logged_in ≡ false → answer_to q d ≡ own_answer q d
  unfolding obey tests first sized_for
  asked-open e = in_order ∙ rw (eq-eqb _ _ (body-size q.ask q.bytes size), e)
