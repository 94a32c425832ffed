-- A configuration write is accepted exactly when length, login, block and block contents are legal and it is no password into RAM; it alters
-- the fourteen octets of that block in the chosen memory and nothing else, and a write that is not accepted alters nothing. Assumes nothing.
use mathlib.Core.Path.{◌≡◌, refl, ap}
use Prim.Native.Nat.{ℕ, ◌<◌}
use mathlib.Core.Bool.{Bool, true, false, cond, not, ◌&&◌, true≢false}
use mathlib.Core.List.{List, []}
use mathlib.Core.Option.{some}
use native.Mathlib.Omega.{arith}
use lib.ListN.{length, drop, length-drop}
use borrow.Author.Tests.{eqb-true, not-true}
use Rattle.octets.specs.Tests.{first}
use Rattle.octets.proofs.Tests.{and_left, and_right}
use Rattle.frame.specs.declared.Kind.{Kind}
use Rattle.rules.specs.declared.control.Command.TheVariants.{OnRow}
use Rattle.rules.specs.declared.control.RowCommand.TheVariants.{WriteBlock}
use Rattle.rules.specs.Config.{block_size, block_count, block_of, names_one, password_in_ram, in_eeprom, block_at, written, bytes_unfit}
use Rattle.rules.specs.Desk.{Desk, memory_of}
use Rattle.rules.specs.Control.{commands, known_in, known, sized_for}
use Rattle.rules.specs.Command.{adr_of, Result, result, done, row_tests, row_effect, tests, unless, obey, answered}
use Rattle.rules.specs.Writes.{write_legal, written_desk}
use Rattle.rules.proofs.Facts.{DeskLegal}
use Rattle.rules.proofs.Memories.{block_written, block-kept}
use Rattle.rules.proofs.Desks.{names-one, memory-of}

-- turned down: nothing changes, no data, a status that is not 0x00
pub record Turned (d : Desk) (r : Result) : Type 0 where
  pub same : r.desk ≡ d
  pub none : r.sent ≡ []
  pub told : r.status ≡ 0x00 → ⊥

turned : (d : Desk) (status : ℕ) → 0 < status → Turned d (result status [] d)
unfolding result
turned d status h = record { same = refl; none = refl; told = λ e. omega arith }

module _ (kind : Kind) (d : Desk) (body : List ℕ) where
  pub write-accepted : write_legal d body ≡ true → answered kind d 0x81 body ≡ done (written_desk body d)
  unfolding write_legal answered known known_in commands obey tests first row_tests unless row_effect written_desk
  write-accepted e =
      let size : sized_for (OnRow WriteBlock) body ≡ true = search (and_left, and_right) in
      let login : d.logged_in ≡ true = search (and_left, and_right) in
      let in' : not d.logged_in ≡ false = ap not login in
      let one : names_one (adr_of body) ≡ true = search (and_left, and_right) in
      let open' : not (password_in_ram (adr_of body)) ≡ true = search (and_left, and_right) in
      let bytes : not (bytes_unfit (block_of (adr_of body)) (drop 1 body)) ≡ true = search (and_left, and_right) in
      rw (size, in', one, not-true (password_in_ram (adr_of body)) open', not-true (bytes_unfit (block_of (adr_of body)) (drop 1 body)) bytes)

  pub write-turned : write_legal d body ≡ false → Turned d (answered kind d 0x81 body)
  unfolding write_legal answered known known_in commands obey tests first row_tests unless
  write-turned e =
      go (sized_for (OnRow WriteBlock) body) d.logged_in (names_one (adr_of body)) (password_in_ram (adr_of body)) (bytes_unfit (block_of (adr_of body)) (drop 1 body))
      refl refl refl refl refl e
    where
      go : (a b c w x : Bool) → sized_for (OnRow WriteBlock) body ≡ a → d.logged_in ≡ b → names_one (adr_of body) ≡ c → password_in_ram (adr_of body) ≡ w
          → bytes_unfit (block_of (adr_of body)) (drop 1 body) ≡ x → a && b && c && not w && not x ≡ false → Turned d (answered kind d 0x81 body)
      go false b c w x p q r s t n = rw p (turned d 0x81 (omega arith))
      go true false c w x p q r s t n = let out : not d.logged_in ≡ true = ap not q in rw (p, out) (turned d 0x13 (omega arith))
      go true true false w x p q r s t n = let in' : not d.logged_in ≡ false = ap not q in rw (p, in', r) (turned d 0x11 (omega arith))
      go true true true true x p q r s t n = let in' : not d.logged_in ≡ false = ap not q in rw (p, in', r, s) (turned d 0x16 (omega arith))
      go true true true false true p q r s t n = let in' : not d.logged_in ≡ false = ap not q in rw (p, in', r, s, t) (turned d 0x11 (omega arith))
      go true true true false false p q r s t n = absurd (true≢false n)

  -- of the listed length and turned down by its own rule: that status, or 0x13 where nobody is logged in
  pub write-told : sized_for (OnRow WriteBlock) body ≡ true → (status : ℕ) → first (row_tests WriteBlock body) ≡ some status
      → answered kind d 0x81 body ≡ result (cond d.logged_in status 0x13) [] d
  unfolding answered known known_in commands obey tests first unless
  write-told size status e = go d.logged_in refl
    where
      go : (b : Bool) → d.logged_in ≡ b → answered kind d 0x81 body ≡ result (cond b status 0x13) [] d
      go true q = let in' : not d.logged_in ≡ false = ap not q in rw (size, in', e)
      go false q = let out : not d.logged_in ≡ true = ap not q in rw (size, out)

  -- a password into RAM
  pub write-protected : sized_for (OnRow WriteBlock) body ≡ true → names_one (adr_of body) ≡ true → password_in_ram (adr_of body) ≡ true
      → answered kind d 0x81 body ≡ result (cond d.logged_in 0x16 0x13) [] d
  unfolding first row_tests
  write-protected size one ram = write-told size 0x16 (rw (one, ram) refl)

  -- of an accepted write: the named block holds the bytes, and every other block of that memory is as it was
  module _ (legal : DeskLegal d) (e : write_legal d body ≡ true) where
    low : block_of (adr_of body) < block_count
    unfolding write_legal
    low = names-one (adr_of body) (search (and_left, and_right))

    size : length (drop 1 body) ≡ block_size
    unfolding write_legal sized_for
    size = let n : length body ≡ 15 = eqb-true (length body) 15 (search (and_left, and_right)) in simp length-drop (omega arith)

    abbrev memory : List ℕ
    memory = memory_of (in_eeprom (adr_of body)) d

    pub write-there : block_at (block_of (adr_of body)) (written (block_of (adr_of body)) (drop 1 body) memory) ≡ drop 1 body
    write-there = block_written memory (memory-of d legal (in_eeprom (adr_of body))) (block_of (adr_of body)) low (drop 1 body) size

    pub write_alone : (j : ℕ) → (j ≡ block_of (adr_of body) → ⊥) → block_at j (written (block_of (adr_of body)) (drop 1 body) memory) ≡ block_at j memory
    write_alone j n = block-kept memory (memory-of d legal (in_eeprom (adr_of body))) (block_of (adr_of body)) low (drop 1 body) size j n
