-- What each command does, from what the functions that it calls promise. Assumes nothing.
use Prim.Native.Nat.{ℕ, ◌-◌, ◌<◌}
use mathlib.Core.Path.{◌≡◌, sym, ◌∙◌}
use mathlib.Core.Bool.{Bool, true, false, cond, not}
use mathlib.Core.List.{List, [], ◌∷◌}
use mathlib.Core.Option.{none}
use native.Mathlib.Omega.{arith}
use borrow.Author.Tests.{not-false}
use lib.ListN.{length, take, drop, length-drop}
use lib.Seq.{take_all}
use Rattle.octets.specs.Tests.{first}
use Rattle.octets.specs.Parts.{part, put, alike}
use Rattle.octets.specs.Numbers.{Octets}
use Rattle.octets.specs.Areas.{upto}
use Rattle.octets.proofs.Tests.{or_right, none-head}
use Rattle.frame.specs.declared.Kind.{Kind}
use Rattle.frame.specs.declared.Way.{Way}
use Rattle.frame.specs.Shape.{data_at}
use Rattle.rules.specs.declared.control.RowCommand.TheVariants.{Reset, ReadBlock, WriteBlock, SaveBlocks, RestoreBlocks, SetTimer, SendTimer, Login}
use Rattle.rules.specs.Config.{block_size, block_count, all_blocks, block_of, in_eeprom, block_at, names_one, names_some, copied, defaults}
use Rattle.rules.specs.Desk.{memory_of}
use Rattle.rules.specs.Command.{adr_of, row_tests, done, row_effect, password_is}
use Rattle.rules.proofs.Memories.{exists_below, defaults-legal, length-block}
use Rattle.rules.proofs.Desks.{names-one}
use Rattle.store.specs.Rows.{eeprom_at, timer_at, field, fields, ram_field, eeprom_field}
use Rattle.store.specs.View.{desk_of, desk_in}
use Rattle.rows.specs.Change.{Fit}
use Rattle.rows.specs.Row.{restarted_row, timer_row, login_row, written_row, saved_row, all_saved_row, default_row}
use Rattle.rows.proofs.Changes.{change-none}
use Rattle.rows.proofs.Meaning.{restarted-change, timer-change, login-change, written-change, saved-change, all-saved-change, default-change}
use Rattle.effects.specs.declared.Reply.{Reply}
use Rattle.effects.specs.Obeyed.{Allowed, does, RowObeyed, RowQuiet}
use Rattle.effects.proofs.Answers.{obeyed, quiet, done-quiet}
use Rattle.effects.proofs.Told.{password-told, timer-size, timer-told, block_size_lem}

-- all behind the first n octets, as they are lent
lent-rest : (n : ℕ) (s : List ℕ) → take (length s - n) (drop n s) ≡ drop n s
lent-rest n s = take_all (length s - n) (drop n s) (omega (arith, length-drop n s))

-- ---- the block that data name, which a command takes

right : (b : Bool) (ts : List (ℕ × Bool)) → first ((0x11, not b) ∷ ts) ≡ none → b ≡ true
right b ts e = not-false b (none-head 0x11 (not b) ts e)

module _ (body : List ℕ) where
  module _ {k : ℕ} (is : k ≡ block_of (adr_of body)) where
    pub read_names : Allowed ReadBlock body → k < block_count
    unfolding row_tests
    read_names a = rw is (names-one _ (right (names_one (adr_of body)) _ a.passed))

    pub write-names : Allowed WriteBlock body → k < block_count
    unfolding row_tests
    write-names a = rw is (names-one _ (right (names_one (adr_of body)) _ a.passed))

    module _ {all : Bool} (e : all ≡ all_blocks (adr_of body)) (one : all ≡ false) where
      one-names : names_some (adr_of body) ≡ true → k < block_count
      unfolding names_some
      one-names some = rw is (exists_below (block_of (adr_of body)) (rw (sym e ∙ one) at some))

      pub save-names : Allowed SaveBlocks body → k < block_count
      unfolding row_tests
      save-names a = one-names (not-false _ (or_right (in_eeprom (adr_of body)) _ (none-head 0x11 _ [] a.passed)))

      pub restore-names : Allowed RestoreBlocks body → k < block_count
      unfolding row_tests
      restore-names a = one-names (right (names_some (adr_of body)) _ a.passed)

-- the bytes behind CFG-ADR, as they are lent
pub write_bytes : (body : List ℕ) → Allowed WriteBlock body → length (take (length body - 1) (drop 1 body)) ≡ block_size
write_bytes body a = rw (lent-rest 1 body) (omega (arith, length-drop 1 body, a.size))

-- ---- what is done

module _ (body : List ℕ) {row row' : List ℕ} {r : Reply} (fit : Fit row) where
  pub login-done : {equal : Bool} {status : ℕ} → Allowed Login body → equal ≡ alike (part eeprom_at (length body) row) body → row' ≡ login_row equal row
      → status ≡ cond equal 0 0x14 → r ≡ record { status = status; len = 0 } → RowQuiet (does Login body) r row row'
  unfolding row_effect
  login-done {equal} {status} allowed same back says plain =
      let is : (rs : List (List ℕ)) → password_is body (desk_in row rs) ≡ equal = λ rs. sym (same ∙ password-told row body rs allowed.size) in
      rw back (quiet status (login-change equal row fit) plain (λ rs. rw (is rs, says)))

  module _ (plain : r ≡ record { status = 0; len = 0 }) where
    pub reset-done : row' ≡ restarted_row row → RowQuiet (does Reset body) r row row'
    unfolding row_effect
    reset-done back = rw back (done-quiet (restarted-change row fit) plain)

    pub set-done : Allowed SetTimer body → row' ≡ timer_row body row → RowQuiet (does SetTimer body) r row row'
    unfolding row_effect
    set-done allowed back = rw back (done-quiet (timer-change body allowed.size row fit) plain)

    pub write_done : {loc : Bool} {k : ℕ} → Allowed WriteBlock body → loc ≡ in_eeprom (adr_of body) → k ≡ block_of (adr_of body)
        → row' ≡ written_row loc k (take (length body - 1) (drop 1 body)) row → RowQuiet (does WriteBlock body) r row row'
    unfolding row_effect done
    write_done {loc} {k} allowed named is back =
        rw (back, lent-rest 1 body)
        (quiet 0 (written-change loc k (drop 1 body) (write-names body is allowed) (rw (lent-rest 1 body) at (write_bytes body allowed)) row fit) plain (λ rs. rw (named, is)))

    module _ {all : Bool} (e : all ≡ all_blocks (adr_of body)) where
      pub save-all-done : all ≡ true → row' ≡ all_saved_row row → RowQuiet (does SaveBlocks body) r row row'
      unfolding row_effect done copied
      save-all-done test back = rw back (quiet 0 (all-saved-change row fit) plain (λ rs. rw (sym e ∙ test)))

      pub save-one-done : {k : ℕ} → Allowed SaveBlocks body → all ≡ false → k ≡ block_of (adr_of body) → row' ≡ saved_row k row → RowQuiet (does SaveBlocks body) r row row'
      unfolding row_effect done copied
      save-one-done {k} allowed test is back =
          rw back (quiet 0 (saved-change k (save-names body is e test allowed) row fit) plain (λ rs. rw (sym e ∙ test, is)))

      module _ {loc : Bool} (named : loc ≡ in_eeprom (adr_of body)) where
        pub restore-all-done : all ≡ true → row' ≡ default_row loc row → RowQuiet (does RestoreBlocks body) r row row'
        unfolding row_effect done copied
        restore-all-done test back = rw back (quiet 0 (default-change loc row fit) plain (λ rs. rw (sym e ∙ test, named)))

        pub restore-one-done : {k : ℕ} → Allowed RestoreBlocks body → all ≡ false → k ≡ block_of (adr_of body) → row' ≡ written_row loc k (block_at k defaults) row
            → RowQuiet (does RestoreBlocks body) r row row'
        unfolding row_effect done copied
        restore-one-done {k} allowed test is back =
            let l : k < block_count = restore-names body is e test allowed in
            rw back (quiet 0 (written-change loc k (block_at k defaults) l (length-block defaults defaults-legal k l) row fit) plain (λ rs. rw (sym e ∙ test, named, is)))

-- ---- what is told

module _ (body : List ℕ) {row bytes : List ℕ} {loc : Bool} {k : ℕ} (fit : Fit row) (allowed : Allowed ReadBlock body)
    (named : loc ≡ in_eeprom (adr_of body)) (is : k ≡ block_of (adr_of body)) (lent : bytes ≡ block_at k (cond loc (field row eeprom_field) (field row ram_field))) where
  pub read-size : length bytes ≡ block_size
  read-size = rw lent (block_size_lem row fit loc k (read_names body is allowed))

  pub read_done : {kind : Kind} {out out' : List ℕ} {at : ℕ} → at ≡ data_at Way.Reply kind → out' ≡ put at bytes out
      → RowObeyed kind (does ReadBlock body) (record { status = 0; len = block_size }) row row out out'
  unfolding row_effect memory_of desk_of fields upto
  read_done place back = obeyed 0 bytes (change-none row fit) (λ rs. rw (lent, named, is)) (rw read-size) (back ∙ rw place)

pub send-done : {kind : Kind} {row out out' : List ℕ} {at : ℕ} → Fit row → Octets row → at ≡ data_at Way.Reply kind → out' ≡ put at (take 4 (drop timer_at row)) out
    → RowObeyed kind (does SendTimer []) (record { status = 0; len = 4 }) row row out out'
unfolding row_effect part
send-done {row = row} fit octet place back =
    obeyed 0 (part timer_at 4 row) (change-none row fit) (λ rs. rw (timer-told row fit octet rs)) (rw (timer-size row fit)) (back ∙ rw place)
