-- Slips that have been made, each as a short day at the box with the answers that the paper gives, slip 2 as two; slip 4 also of every desk. Assumes nothing.
use mathlib.Core.Path.{◌≡◌, refl}
use Prim.Native.Nat.{ℕ}
use mathlib.Core.Bool.{true}
use mathlib.Core.List.{List, [], ◌∷◌, ◌++◌}
use lib.ListN.{replicate}
use Rattle.frame.specs.declared.Kind.TheVariants.{Standard}
use Rattle.frame.specs.Shape.{reply_room}
use Rattle.frame.specs.Sealed.{frame_of}
use Rattle.octets.specs.Numbers.{octets}
use Rattle.locks.specs.Locks.{locked, ticks_left}
use Rattle.rules.specs.declared.Seen.TheVariants.{Ignored, Recorded}
use Rattle.rules.specs.Desk.{Desk}
use Rattle.rules.specs.Sighting.{seen_as, after_seen}
use Rattle.rules.specs.Box.{Event, frame, sighting, tick, Answer, reply, seen, ok, sighted, fresh_box, run}
use Rattle.rules.proofs.Computed.{computed}

-- a request to desk 0 in a standard frame, with room for the reply; and the reply with its status and data
abbrev pub ask : ℕ → List ℕ → Event
ask control body = frame (frame_of Standard 0 control body) reply_room

abbrev pub told : ℕ → ℕ → List ℕ → Answer
told control status sent = reply (frame_of Standard 0 control (status ∷ sent))

abbrev pub zeros : ℕ → List ℕ
zeros n = replicate n 0

-- a tag that is locked at one desk is recorded at another
pub lock-of-a-desk : run fresh_box (sighting 0 7 1 ∷ sighting 1 7 1 ∷ sighting 0 7 1 ∷ []) ≡ seen Recorded ∷ seen Recorded ∷ seen (Ignored 55) ∷ []
unfolding computed
lock-of-a-desk = refl

-- a password written to EEPROM counts at the next login, though RAM has the old one until a reset
pub password-of-eeprom :
    run fresh_box (ask 0xA0 (zeros 4) ∷ ask 0x81 (0x80 ∷ 1 ∷ 2 ∷ 3 ∷ 4 ∷ zeros 10) ∷ ask 0xA0 (zeros 4) ∷ ask 0xA0 (1 ∷ 2 ∷ 3 ∷ 4 ∷ []) ∷ [])
    ≡ told 0xA0 0x00 [] ∷ told 0x81 0x00 [] ∷ told 0xA0 0x14 [] ∷ told 0xA0 0x00 [] ∷ []
unfolding computed
password-of-eeprom = refl

-- defaults in RAM that are not saved lock nobody out: the password is still that of EEPROM
pub unsaved-password :
    run fresh_box
    (ask 0xA0 (zeros 4) ∷ ask 0x81 (0x80 ∷ 1 ∷ 2 ∷ 3 ∷ 4 ∷ zeros 10) ∷ ask 0x63 [] ∷ ask 0xA0 (1 ∷ 2 ∷ 3 ∷ 4 ∷ []) ∷ ask 0x83 (0x00 ∷ []) ∷ ask 0xA0 (1 ∷ 2 ∷ 3 ∷ 4 ∷ [])
    ∷ ask 0xA0 (zeros 4) ∷ [])
    ≡ told 0xA0 0x00 [] ∷ told 0x81 0x00 [] ∷ told 0x63 0x00 [] ∷ told 0xA0 0x00 [] ∷ told 0x83 0x00 [] ∷ told 0xA0 0x00 [] ∷ told 0xA0 0x14 [] ∷ []
unfolding computed
unsaved-password = refl

-- VALID-TIME 1 written to EEPROM: a lock still lasts 55 ticks; after 0x63 one tick
pub valid-time-at-reset :
    run fresh_box (ask 0xA0 (zeros 4) ∷ ask 0x81 (0x8C ∷ 0 ∷ 1 ∷ zeros 12) ∷ sighting 0 7 1 ∷ tick ∷ sighting 0 7 1 ∷ ask 0x63 [] ∷ sighting 0 7 1 ∷ tick ∷ sighting 0 7 1 ∷ [])
    ≡ told 0xA0 0x00 [] ∷ told 0x81 0x00 [] ∷ seen Recorded ∷ ok ∷ seen (Ignored 54) ∷ told 0x63 0x00 [] ∷ seen Recorded ∷ ok ∷ seen Recorded ∷ []
unfolding computed
valid-time-at-reset = refl

-- a locked sighting sets no mark: 0x22 answers 0x00 and not 0x93
pub locked-sets-no-mark :
    run fresh_box (sighting 0 7 1 ∷ sighting 0 7 1 ∷ ask 0x22 (0 ∷ 1 ∷ []) ∷ [])
    ≡ seen Recorded ∷ seen (Ignored 55) ∷ told 0x22 0x00 (octets 2 1 ++ octets 8 7 ++ zeros 4 ++ (1 ∷ [])) ∷ []
unfolding computed
locked-sets-no-mark = refl

-- a sighting of a locked tag changes nothing, and is ignored, also where 64 records are held: rule 1 comes before rule 2
pub locked-changes-nothing : (uid mask : ℕ) (d : Desk) → locked uid d.locks ≡ true → sighted uid mask d ≡ record { answer = seen (Ignored (ticks_left uid d.locks)); desk = d }
unfolding sighted seen_as after_seen
locked-changes-nothing uid mask d e = rw e

-- 0x32 removes what 0x22 sent, and not what came after it; a further 0x32 removes none
pub removes-what-was-sent :
    run fresh_box (sighting 0 7 1 ∷ ask 0x22 (0 ∷ 9 ∷ []) ∷ sighting 0 8 1 ∷ ask 0x32 [] ∷ ask 0x31 [] ∷ ask 0x32 [] ∷ ask 0x31 [] ∷ [])
    ≡ seen Recorded ∷ told 0x22 0x00 (octets 2 1 ++ octets 8 7 ++ zeros 4 ++ (1 ∷ [])) ∷ seen Recorded ∷ told 0x32 0x00 [] ∷ told 0x31 0x00 (0 ∷ 64 ∷ 0 ∷ 1 ∷ 0 ∷ 1 ∷ [])
    ∷ told 0x32 0x00 [] ∷ told 0x31 0x00 (0 ∷ 64 ∷ 0 ∷ 1 ∷ 0 ∷ 1 ∷ []) ∷ []
unfolding computed
removes-what-was-sent = refl
