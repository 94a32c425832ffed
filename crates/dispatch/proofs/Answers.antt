-- A command's answer where it is known which it is; one of the row, which was lent and came back. Assumes nothing.
use Prim.Native.Nat.{ℕ, ◌+◌, ◌-◌, ◌<◌}
use mathlib.Core.Path.{◌≡◌, refl, ap}
use mathlib.Core.Bool.{true}
use mathlib.Core.List.{List, ◌++◌}
use mathlib.Core.Option.{Option, none, some}
use lib.ListN.{length, take, drop}
use borrow.Author.Tests.{eqb-true}
use Rattle.octets.specs.Tests.{first}
use Rattle.octets.specs.Each.{All, Octet}
use Rattle.frame.specs.declared.Kind.{Kind}
use Rattle.table.specs.Entries.{desks, records_of}
use Rattle.rules.specs.declared.control.RowCommand.{RowCommand}
use Rattle.rules.specs.declared.control.TableCommand.{TableCommand}
use Rattle.rules.specs.declared.control.TableCommand.TheVariants.{ReadRecords}
use Rattle.rules.specs.declared.control.Command.{Command}
use Rattle.rules.specs.declared.control.Command.TheVariants.{OnRow, OnTable}
use Rattle.rules.specs.Desk.{Desk}
use Rattle.rules.specs.Control.{sized_for}
use Rattle.rules.specs.Command.{result, row_tests, row_effect, unless}
use Rattle.rules.proofs.Facts.{DeskLegal}
use Rattle.rules.proofs.Commands.{row-legal}
use Rattle.store.specs.Layout.{row_width, row_at}
use Rattle.store.specs.View.{in_use}
use Rattle.store.specs.Sound.{sound}
use Rattle.keeping.specs.Kept.{kept}
use Rattle.keeping.proofs.Rows.{kept-is, kept-legal, lent_row, lent_back}
use Rattle.effects.specs.declared.Reply.{Reply}
use Rattle.effects.specs.Obeyed.{RowObeyed}
use Rattle.commands.specs.Ruled.{row_ruled}
use Rattle.records.specs.Obeyed.{ruled, Obeyed}

-- ---- by the command, where it is known which

pub sized_of : (a b : Command) (body : List ℕ) → a ≡ b → sized_for a body ≡ true → sized_for b body ≡ true
sized_of a b body q e = rw q at e

pub obeyed-of : (a b : Command) (d : ℕ) (kind : Kind) (body : List ℕ) (r : Reply) (s s' out out' : List ℕ) → a ≡ b
    → Obeyed d kind (ruled b kind (kept d s) body) r s s' out out' → Obeyed d kind (ruled a kind (kept d s) body) r s s' out out'
obeyed-of a b d kind body r s s' out out' q o = rw q o

pub obeyed-for : (a b : TableCommand) (d : ℕ) (kind : Kind) (body : List ℕ) (r : Reply) (s s' out out' : List ℕ) → a ≡ b
    → Obeyed d kind (ruled (OnTable b) kind (kept d s) body) r s s' out out' → Obeyed d kind (ruled (OnTable a) kind (kept d s) body) r s s' out out'
obeyed-for a b d kind body r s s' out out' q o = obeyed-of (OnTable a) (OnTable b) d kind body r s s' out out' (ap OnTable q) o

pub sized-two : (a : TableCommand) (body : List ℕ) → a ≡ ReadRecords → sized_for (OnTable a) body ≡ true → length body ≡ 2
unfolding sized_for
sized-two a body q e = eqb-true (length body) 2 (sized_of (OnTable a) (OnTable ReadRecords) body (ap OnTable q) e)

module _ (s : List ℕ) (e : sound s ≡ true) (d : ℕ) (h : d < desks) where
  -- ---- a command of the row, which was lent and came back

  ruled-legal : (c : RowCommand) (body : List ℕ) → All Octet body → sized_for (OnRow c) body ≡ true → DeskLegal (row_ruled c body (kept d s)).desk
  unfolding unless result
  ruled-legal c body o z = go (first (row_tests c body)) refl
    where
      go : (t : Option ℕ) → first (row_tests c body) ≡ t → DeskLegal (unless t (kept d s) (row_effect c (kept d s) body)).desk
      go none q = row-legal (kept d s) body (kept-legal s e d h) o c z q
      go (some status) q = kept-legal s e d h

  module _ (at : ℕ) (a : at ≡ row_at d s) where
    pub row-obeyed : (kind : Kind) (c : RowCommand) (body : List ℕ) (r : Reply) (ys out out' : List ℕ) → All Octet body → sized_for (OnRow c) body ≡ true
        → RowObeyed kind (row_ruled c body) r (take (at + row_width - at) (drop at s)) ys out out'
        → Obeyed d kind (ruled (OnRow c) kind (kept d s) body) r s (take at s ++ (ys ++ drop (at + row_width - at) (drop at s))) out out'
    row-obeyed kind c body r ys out out' o z q =
        record {
          told = rw (kept-is s e d h, ← lent_row s e d h at a) (q.told (records_of d (in_use s)));
          says = lent_back s e d h at a (λ (x : Desk). (row_ruled c body x).desk) ys q.change (ruled-legal c body o z);
        }
