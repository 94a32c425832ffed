-- The answers of the commands that tell records: 0x22, 0x31. Assumes nothing.
use Prim.Native.Nat.{ℕ, ◌+◌, ◌*◌, ◌≤◌, ◌<◌, min}
use mathlib.Core.Path.{◌≡◌, refl, sym, ap, ◌∙◌}
use mathlib.Core.Bool.{true, cond}
use mathlib.Core.List.{List, [], ◌++◌}
use native.Mathlib.Omega.{arith}
use lib.Dec.{ltb}
use lib.ListN.{length, take, length-append}
use lib.Seq.{length-take-le}
use borrow.Author.Tests.{eq-eqb, ne_eqb}
use Rattle.octets.specs.Tests.{first}
use Rattle.octets.specs.Parts.{put}
use Rattle.octets.specs.Numbers.{octets, u16_at}
use Rattle.octets.proofs.Puts.{put-append}
use Rattle.octets.proofs.Numbers.{octets-length}
use Rattle.octets.proofs.Rows.{wide-take}
use Rattle.frame.specs.declared.Kind.{Kind}
use Rattle.frame.specs.declared.Way.TheVariants.{Reply as ReplyWay}
use Rattle.frame.specs.Shape.{data_at}
use Rattle.table.specs.Entries.{record_width, desks, share}
use Rattle.rules.specs.declared.control.Command.TheVariants.{OnTable}
use Rattle.rules.specs.declared.control.TableCommand.TheVariants.{ReadRecords, SendTable}
use Rattle.rules.specs.Desk.{Desk}
use Rattle.rules.specs.Records.{most_sent, goes, read_status, counted, sent_table}
use Rattle.rules.specs.Legal.{desk_legal}
use Rattle.rules.specs.Command.{result, unless, table_tests, table_effect}
use Rattle.rules.proofs.Counts.{legal-wide, counted-length}
use Rattle.rules.proofs.Facts.{DeskLegal, desk-test}
use Rattle.rules.proofs.Desks.{table-legal}
use Rattle.store.specs.Sound.{sound}
use Rattle.doings.specs.declared.Doing.TheVariants.{Due}
use Rattle.doings.specs.Doing.{done_by}
use Rattle.keeping.specs.declared.Marks.{Marks}
use Rattle.keeping.specs.Kept.{kept, Says, marks_of}
use Rattle.keeping.proofs.Rows.{kept-legal, unchanged}
use Rattle.effects.specs.declared.Reply.{Reply}
use Rattle.records.specs.Obeyed.{ruled, sends, Obeyed, Sent}
use Rattle.records.proofs.Answers.{obeyed-as}

-- ---- 0x22

module _ (d : Desk) (p : DeskLegal d) where
  pub due-legal : (n : ℕ) → n ≤ length d.table.held → desk_legal (done_by (Due n) d) ≡ true
  unfolding sent_table
  due-legal n l = desk-test _ (table-legal d p _ record { few = p.table.few; each = p.table.each; mark = p.table.mark; due = l; start = p.table.start })

module _ (kind : Kind) (desk : Desk) (body : List ℕ) where
  pub none-asked : u16_at 0 body ≡ 0 → ruled (OnTable ReadRecords) kind desk body ≡ result 0x11 [] desk
  unfolding table_tests first unless
  none-asked a = rw (eq-eqb (u16_at 0 body) 0 a)

  module _ (a : u16_at 0 body ≡ 0 → ⊥) where
    pub none-held : length desk.table.held ≡ 0 → ruled (OnTable ReadRecords) kind desk body ≡ result 0x92 [] desk
    unfolding table_tests first unless
    none-held b = rw (ne_eqb (u16_at 0 body) 0 a, eq-eqb (length desk.table.held) 0 b)

    pub some-sent : (length desk.table.held ≡ 0 → ⊥) → (wanted : ℕ) → wanted ≡ min (u16_at 0 body) (length desk.table.held)
        → ruled (OnTable ReadRecords) kind desk body ≡ sends kind wanted desk
    unfolding table_tests table_effect first unless sends goes read_status
    some-sent b wanted w = rw (ne_eqb (u16_at 0 body) 0 a, ne_eqb (length desk.table.held) 0 b, w)

-- those that fit went, and were then marked as due
pub records-sent : (s : List ℕ) → sound s ≡ true → (d : ℕ) → d < desks → (kind : Kind) (r : Reply) (wanted n status : ℕ) (m : Marks) (s' out out' : List ℕ)
    → wanted ≤ length (kept d s).table.held → n ≡ min wanted (most_sent kind) → m ≡ marks_of (kept d s) → status ≡ cond m.overflow 0x93 (cond (ltb n wanted) 0x94 0x00)
    → r ≡ record { status = status; len = 2 + record_width * n } → out' ≡ put (data_at ReplyWay kind) (counted (take n (kept d s).table.held)) out
    → Says d (done_by (Due n) (kept d s)) s s' → Obeyed d kind (sends kind wanted (kept d s)) r s s' out out'
unfolding sends marks_of
records-sent s e d h kind r wanted n status m s' out out' few g p q reply o says =
    let held = (kept d s).table.held in
    let some : length (take n held) ≡ n = length-take-le n held (omega arith) in
    let size : length (counted (take n held)) ≡ 2 + record_width * n =
    counted-length (take n held) (wide-take record_width n held (legal-wide held (kept-legal s e d h).table.each)) ∙ rw some (omega arith) in
    let told : status ≡ cond (kept d s).table.overflow 0x93 (cond (ltb n wanted) 0x94 0x00) = rw p at q in
    rw (← g) (obeyed-as d kind _ status (counted (take n held)) (done_by (Due n) (kept d s)) r s s' out out' (ap (λ (x : ℕ). result x (counted (take n held)) (done_by (Due n) (kept d s))) (sym told)) (reply ∙ rw size) o says)

-- ---- 0x31

-- three numbers of two octets, one after the other
three-put : (to a b c : ℕ) (out one two three : List ℕ) → one ≡ put to (octets 2 a) out → two ≡ put (to + 2) (octets 2 b) one → three ≡ put (to + 4) (octets 2 c) two
    → three ≡ put to (octets 2 a ++ octets 2 b ++ octets 2 c) out
three-put to a b c out one two three x y z =
    let l : length (octets 2 a ++ octets 2 b) ≡ 4 = simp (length-append, octets-length) in
    rw (z, y, x) (sym (put-append to (octets 2 a ++ octets 2 b) (octets 2 c) out ∙ rw (l, put-append to (octets 2 a) (octets 2 b) out, octets-length 2 a)))

module _ (s : List ℕ) (e : sound s ≡ true) (d : ℕ) (h : d < desks) where
  pub table-sent : (kind : Kind) (r : Reply) (to n : ℕ) (m : Marks) (out one two three : List ℕ) → to ≡ data_at ReplyWay kind → m ≡ marks_of (kept d s)
      → n ≡ length (kept d s).table.held → r ≡ record { status = 0; len = 6 }
      → one ≡ put to (octets 2 share) out → two ≡ put (to + 2) (octets 2 m.start) one → three ≡ put (to + 4) (octets 2 n) two → Sent SendTable d kind r s out three
  unfolding marks_of table_tests table_effect first octets unless
  table-sent kind r to n m out one two three t p q reply x y z =
      record {
        obeyed = λ body. obeyed-as d kind _ 0 (octets 2 share ++ octets 2 (kept d s).table.start ++ octets 2 (length (kept d s).table.held)) (kept d s) r s s out three refl reply
            (rw (← q, ← t, ap (λ (x : Marks). x.start) (sym p)) (three-put to share m.start n out one two three x y z)) (unchanged s e d h);
      }
