-- Document 02 (ix), as a registrar meets it: block 0 with LOC 0 is turned down, and a write of block 0 that is answered 0x00 has set the password.
-- With it what a save does to a password that RAM does not have yet. Assumes nothing.
use mathlib.Core.Path.{◌≡◌, refl, sym, ap, ◌∙◌}
use Prim.Native.Nat.{ℕ, ◌<◌}
use native.Mathlib.Omega.{arith}
use mathlib.Core.Bool.{Bool, true, false, cond, not, ◌&&◌}
use mathlib.Core.List.{List, [], ◌∷◌}
use lib.ListN.{length, drop}
use lib.Dec.{eqb, lit≤}
use borrow.Author.Tests.{eq-eqb, eqb-true, not-true, not-false}
use Rattle.octets.specs.Parts.{part, alike}
use Rattle.octets.proofs.Tests.{and_left, and_right}
use Rattle.octets.proofs.Every.{every-at}
use Rattle.octets.proofs.Puts.{part-part}
use Rattle.frame.specs.declared.Kind.{Kind}
use Rattle.frame.specs.declared.Kind.TheVariants.{Standard}
use Rattle.rules.specs.declared.control.Command.TheVariants.{OnRow}
use Rattle.rules.specs.declared.control.RowCommand.TheVariants.{WriteBlock}
use Rattle.rules.specs.Config.{block_size, block_at, written, in_eeprom, block_of, names_one, password_in_ram, bytes_unfit}
use Rattle.rules.specs.Desk.{Desk, with_memory, memory_of}
use Rattle.rules.specs.Control.{sized_for}
use Rattle.rules.specs.Command.{adr_of, password_is, Result, result, done, answered}
use Rattle.rules.specs.Writes.{write_legal, written_desk}
use Rattle.rules.specs.Box.{fresh_box, run}
use Rattle.rules.proofs.Facts.{DeskLegal}
use Rattle.rules.proofs.Computed.{computed}
use Rattle.rules.proofs.Slips.{ask, told, zeros}
use Rattle.rules.proofs.WriteCondition.{write-accepted, write-turned, write-told, write-protected, write-there}

-- ---- turned down

-- one octet names it: of the two with block 0 and LOC 0 the other has bit 6, which 0x81 does not take
pub one_address : (adr : ℕ) → adr < 256 → names_one adr && password_in_ram adr ≡ eqb adr 0x00
unfolding computed
one_address adr h = same (eqb adr 0x00) (named adr) (every-at 256 (λ (n : ℕ). cond (eqb n 0x00) (named n) (not (named n))) adr refl h)
  where
    named : ℕ → Bool
    named n = names_one n && password_in_ram n

    same : (b x : Bool) → cond b x (not x) ≡ true → x ≡ b
    same true x e = e
    same false x e = not-true x e

module _ (kind : Kind) (d : Desk) (bytes : List ℕ) (size : length bytes ≡ block_size) where
  sized : (adr : ℕ) → sized_for (OnRow WriteBlock) (adr ∷ bytes) ≡ true
  unfolding sized_for
  sized adr = eq-eqb (length (adr ∷ bytes)) 15 (omega arith)

  pub into-ram : answered kind d 0x81 (0x00 ∷ bytes) ≡ result (cond d.logged_in 0x16 0x13) [] d
  unfolding computed
  into-ram = write-protected kind d (0x00 ∷ bytes) (sized 0x00) refl refl

  -- all blocks is no address of a write, and the address is tested before
  pub into-all : answered kind d 0x81 (0x40 ∷ bytes) ≡ result (cond d.logged_in 0x11 0x13) [] d
  unfolding computed
  into-all = write-told kind d (0x40 ∷ bytes) (sized 0x40) 0x11 refl

-- it is not block 7, so that no test of the bytes is given beside
pub bytes_fit : (adr : ℕ) (bytes : List ℕ) → password_in_ram adr ≡ true → bytes_unfit (block_of adr) bytes ≡ false
unfolding password_in_ram
bytes_fit adr bytes e =
    let zero : block_of adr ≡ 0 = eqb-true (block_of adr) 0 (and_left (eqb (block_of adr) 0) (not (in_eeprom adr)) e) in
    rw zero refl

-- ---- set

-- the password is how block 0 begins
begins : (m body : List ℕ) → block_at 0 m ≡ drop 1 body → part 0 4 m ≡ part 1 4 body
unfolding block_at part
begins m body e = sym (part-part 0 4 0 block_size m (lit≤ tt)) ∙ ap (part 0 4) e

module _ (d : Desk) (body : List ℕ) (legal : DeskLegal d) (zero : block_of (adr_of body) ≡ 0) where
  -- of block 0 a legal write is one into EEPROM
  into-eeprom : write_legal d body ≡ true → in_eeprom (adr_of body) ≡ true
  unfolding write_legal password_in_ram
  into-eeprom e =
      let open' : not (eqb (block_of (adr_of body)) 0 && not (in_eeprom (adr_of body))) ≡ true = search (and_left, and_right) in
      not-false (in_eeprom (adr_of body)) (not-true (not (in_eeprom (adr_of body))) (rw (eq-eqb (block_of (adr_of body)) 0 zero) at open'))

  password-written : write_legal d body ≡ true → (password : List ℕ) → password_is password (written_desk body d) ≡ alike password (part 1 4 body)
  unfolding password_is written_desk with_memory memory_of
  password-written e password =
      let m = written 0 (drop 1 body) d.eeprom in
      let there : block_at 0 m ≡ drop 1 body = rw (zero, into-eeprom e) at (write-there Standard d body legal e) in
      rw (into-eeprom e, zero) (ap (alike password) (begins m body there))

-- who is told 0x00 has set the password: a login brings these four bytes, and no others
pub told-and-set : (kind : Kind) (d : Desk) (body : List ℕ) → DeskLegal d → block_of (adr_of body) ≡ 0 → (answered kind d 0x81 body).status ≡ 0x00
    → (password : List ℕ) → password_is password (answered kind d 0x81 body).desk ≡ alike password (part 1 4 body)
unfolding done result
told-and-set kind d body legal zero e password = go (write_legal d body) refl
  where
    go : (b : Bool) → write_legal d body ≡ b → password_is password (answered kind d 0x81 body).desk ≡ alike password (part 1 4 body)
    go true q = ap (λ (r : Result). password_is password r.desk) (write-accepted kind d body q) ∙ password-written d body legal zero q password
    go false q = absurd ((write-turned kind d body q).told e)

-- ---- saved: a day each at a fresh box

-- RAM has the old password until a reset, and 0x82 of all blocks puts it back
pub save-puts-the-old-one-back :
    run fresh_box (ask 0xA0 (zeros 4) ∷ ask 0x81 (0x80 ∷ 1 ∷ 2 ∷ 3 ∷ 4 ∷ zeros 10) ∷ ask 0x82 (0x40 ∷ []) ∷ ask 0xA0 (1 ∷ 2 ∷ 3 ∷ 4 ∷ []) ∷ ask 0xA0 (zeros 4) ∷ [])
    ≡ told 0xA0 0x00 [] ∷ told 0x81 0x00 [] ∷ told 0x82 0x00 [] ∷ told 0xA0 0x14 [] ∷ told 0xA0 0x00 [] ∷ []
unfolding computed
save-puts-the-old-one-back = refl

-- after 0x63 it has the new one, and the same save keeps that
pub reset-keeps-the-new-one :
    run fresh_box
    (ask 0xA0 (zeros 4) ∷ ask 0x81 (0x80 ∷ 1 ∷ 2 ∷ 3 ∷ 4 ∷ zeros 10) ∷ ask 0x63 [] ∷ ask 0xA0 (1 ∷ 2 ∷ 3 ∷ 4 ∷ []) ∷ ask 0x82 (0x40 ∷ []) ∷ ask 0xA0 (zeros 4)
    ∷ ask 0xA0 (1 ∷ 2 ∷ 3 ∷ 4 ∷ []) ∷ [])
    ≡ told 0xA0 0x00 [] ∷ told 0x81 0x00 [] ∷ told 0x63 0x00 [] ∷ told 0xA0 0x00 [] ∷ told 0x82 0x00 [] ∷ told 0xA0 0x14 [] ∷ told 0xA0 0x00 [] ∷ []
unfolding computed
reset-keeps-the-new-one = refl
