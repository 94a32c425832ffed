-- The write condition, of the call itself: a frame with 0x81 that no test refuses (frame, checksum, desk) is answered 0x00 exactly when
-- length, login, block and block contents are legal and it is no password into RAM; the store then says the desk with that block written,
-- and else what it said before. Assumes nothing.
use Rattle.std.specs.Prelude.{Result, Ok}
use mathlib.Core.Path.{◌≡◌, sym, ap, subst, ◌∙◌}
use Prim.Native.Nat.{ℕ}
use mathlib.Core.Bool.{Bool, true, false, cond}
use mathlib.Core.List.{List, [], ◌∷◌}
use mathlib.Core.Option.{none}
use lib.ListN.{length, set}
use lib.Seq.{set-get_or}
use Rattle.octets.specs.Tests.{first}
use Rattle.octets.specs.Parts.{put}
use Rattle.frame.specs.declared.Refusal.{Refusal}
use Rattle.frame.specs.Judged.{data_of}
use Rattle.frame.specs.Sealed.{frame_of}
use Rattle.rules.specs.Desk.{Desk, fresh_desk}
use Rattle.rules.specs.declared.control.Command.TheVariants.{OnRow}
use Rattle.rules.specs.declared.control.RowCommand.TheVariants.{WriteBlock}
use Rattle.rules.specs.Config.{names_one, password_in_ram}
use Rattle.rules.specs.Control.{sized_for}
use Rattle.rules.specs.Command.{adr_of, result, done, answered}
use Rattle.rules.specs.Writes.{write_legal, written_desk}
use Rattle.rules.specs.Box.{frame, request, served, placed, unless_refused, frame_refusals, step, desk_at}
use Rattle.rules.proofs.WriteCondition.{Turned, write-accepted, write-turned, write-protected}
use Rattle.store.specs.View.{view}
use Rattle.store.specs.Sound.{sound}
use Rattle.events.specs.declared.Answer.{Answer}
use Rattle.events.specs.declared.Answer.TheVariants.{Reply}
use Rattle.depot.specs.Called.{step_on, Called}

module _ (f s out : List ℕ) (a : Result Answer Refusal) (s' out' : List ℕ) (called : Called (frame f (length out)) s out a s' out') (e : sound s ≡ true)
    (passed : first (frame_refusals f (length out)) ≡ none) (write : (request f).control ≡ 0x81) where
  abbrev desk : Desk
  desk = desk_at (view s) (request f).address

  abbrev body : List ℕ
  body = data_of (request f) f

  -- the reply that carries a status and no data
  abbrev told : ℕ → List ℕ
  told status = frame_of (request f).kind (request f).address (request f).control (status ∷ [])

  pub accepted : write_legal desk body ≡ true → (a ≡ Ok (Reply (length (told 0x00)))) × (out' ≡ put 0 (told 0x00) out) × (view s' ≡ set (view s) (request f).address (written_desk body desk))
  unfolding step_on step unless_refused placed served done result
  accepted legal =
      let is : answered (request f).kind desk (request f).control body ≡ done (written_desk body desk) =
      ap (λ (c : ℕ). answered (request f).kind desk c body) write ∙ write-accepted (request f).kind desk body legal in
      let t = rw (e, passed, is) at called.ended in
      (t.0, t.1, t.2.says)

  pub turned : write_legal desk body ≡ false → (status : ℕ) × (status ≡ 0x00 → ⊥) × (a ≡ Ok (Reply (length (told status)))) × (out' ≡ put 0 (told status) out) × (view s' ≡ view s)
  unfolding step_on step unless_refused placed served desk_at
  turned illegal =
      let r = answered (request f).kind desk (request f).control body in
      let is : Turned desk r =
      subst (λ (c : ℕ). Turned desk (answered (request f).kind desk c body)) (sym write) (write-turned (request f).kind desk body illegal) in
      let t = rw (e, passed, is.none, is.same) at called.ended in
      (r.status, is.told, t.0, t.1, t.2.says ∙ set-get_or (view s) (request f).address fresh_desk)

  -- document 02 (ix): a password into RAM, of the listed length and from who is logged in
  pub protected : sized_for (OnRow WriteBlock) body ≡ true → desk.logged_in ≡ true → names_one (adr_of body) ≡ true → password_in_ram (adr_of body) ≡ true
      → (a ≡ Ok (Reply (length (told 0x16)))) × (out' ≡ put 0 (told 0x16) out) × (view s' ≡ view s)
  unfolding step_on step unless_refused placed served desk_at result
  protected size login one ram =
      let is : answered (request f).kind desk (request f).control body ≡ result 0x16 [] desk =
      ap (λ (c : ℕ). answered (request f).kind desk c body) write ∙ write-protected (request f).kind desk body size one ram
      ∙ ap (λ (b : Bool). result (cond b 0x16 0x13) [] desk) login in
      let t = rw (e, passed, is) at called.ended in
      (t.0, t.1, t.2.says ∙ set-get_or (view s) (request f).address fresh_desk)
