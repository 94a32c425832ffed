-- What was read off is answered as the whole line is, however long it is. Assumes nothing.
use Prim.Native.Nat.{ℕ, ◌≤◌, ◌<◌}
use mathlib.Core.Path.{◌≡◌, refl, sym, ap, subst, ◌∙◌}
use mathlib.Core.Bool.{Bool, true, false, not}
use mathlib.Core.List.{List}
use native.Mathlib.Decide.{dec_lt}
use native.Mathlib.Omega.{arith}
use borrow.Author.Tests.{lt-ltb, le-ltb}
use lib.ListN.{length, take}
use lib.Seq.{length-take-le}
use Rattle.octets.specs.Tests.{all_of}
use Rattle.frame.specs.Shape.{reply_room}
use Rattle.feeding.specs.declared.Begun.{Begun}
use Rattle.digits.specs.Digits.{is_hex, octets_of}
use Rattle.text.specs.Listing.{Line, frame, not_read, odd, other_line, line_of}
use Rattle.feeding.specs.Feeding.{Fed, read_off, held_room}
use Rattle.answering.specs.Answered.{Answered}
use Rattle.readoff.specs.ReadOff.{ReadOff}
use Rattle.digits.proofs.Values.{octets-length}
use Rattle.feeding.proofs.Held.{reads-long, reads_other, reads-odd, reads-frame, all_held}
use Rattle.answering.proofs.Long.{long-called}
use Rattle.answering.proofs.NoHex.{long-other}

-- ---- the line that a text is

module _ (s : List ℕ) where
  hex-odd : all_of is_hex s ≡ true → odd s ≡ true → line_of s ≡ not_read
  unfolding line_of
  hex-odd p q = rw (p, q)

  hex-even : all_of is_hex s ≡ true → odd s ≡ false → line_of s ≡ frame (octets_of s)
  unfolding line_of
  hex-even p q = rw (p, q)

  no-hex : all_of is_hex s ≡ false → line_of s ≡ other_line s
  unfolding line_of
  no-hex p = rw p

-- ---- both are answered alike

module _ (s reply out : List ℕ) (n : ℕ) (s' reply' out' : List ℕ) where
  abbrev Ends : Line → Type 0
  Ends l = Answered l s reply out n s' reply' out'

  long-frames : (f g : List ℕ) → reply_room < length f → reply_room < length g → Ends (frame f) → Ends (frame g)
  long-frames f g h l q =
      record {
        answers = (
          q.answers.0,
          long-called f g (length reply) s reply q.answers.0 s' reply' h l q.answers.1,
          q.answers.2,
        );
      }

  module _ (text : List ℕ) (at : Begun) (held : List ℕ) (f : Fed text at held) (room : held_room ≤ length held) where
    frames : Ends (frame (octets_of (take at.held held))) → Ends (frame (octets_of text))
    frames q =
        elim (dec_lt (length held) (length text)) [
          | yes h ↦
              let l : length (take (length held) text) ≡ length held = length-take-le (length held) text (omega arith) in
              long-frames _ _
              (omega (arith, octets-length (take (length held) text), l)) (omega (arith, octets-length text))
              (subst (λ (xs : List ℕ). Ends (frame (octets_of xs))) f.held-is q)
          | no h ↦ subst (λ (xs : List ℕ). Ends (frame (octets_of xs))) (all_held at held text f (omega arith)) q
        ]

    hex-whole : (b : Bool) → odd text ≡ b → all_of is_hex text ≡ true → Ends (read_off at held) → Ends (line_of text)
    hex-whole true e p q = rw (hex-odd text p e) (rw (reads-odd at held (f.bad-is ∙ ap not p) (f.odd_is ∙ e)) at q)
    hex-whole false e p q = rw (hex-even text p e) (frames (rw (reads-frame at held (f.bad-is ∙ ap not p) (f.odd_is ∙ e)) at q))

    other-whole : all_of is_hex text ≡ false → Ends (read_off at held) → Ends (line_of text)
    other-whole p q =
        elim (dec_lt (length held) (length text)) [
          | yes h ↦
              rw (no-hex text p, long-other text (omega arith))
              (rw (reads-long at held (f.bad-is ∙ ap not p) (f.over-is ∙ lt-ltb _ _ h)) at q)
          | no h ↦
              rw (no-hex text p)
              (subst (λ (xs : List ℕ). Ends (other_line xs)) (all_held at held text f (omega arith))
              (rw (reads_other at held (f.bad-is ∙ ap not p) (f.over-is ∙ le-ltb (length held) (length text) (omega arith))) at q))
        ]

    either : (b : Bool) → all_of is_hex text ≡ b → Ends (read_off at held) → Ends (line_of text)
    either true e q = hex-whole (odd text) refl e q
    either false e q = other-whole e q

  pub read_whole : (at : Begun) (held : List ℕ) (l : Line) → read_off at held ≡ l → Ends l → ReadOff at held s reply out n s' reply' out'
  read_whole at held l e q =
      let read : Ends (read_off at held) = subst Ends (sym e) q in
      record { read = read; whole = λ text f room. either text at held f room (all_of is_hex text) refl read }
