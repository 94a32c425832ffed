-- A desk's system timer: hour, minute and milliseconds. Assumes nothing.
use Rattle.std.specs.Prelude.{ℕ, ◌+◌, ◌/◌, ◌%◌, Bool, ◌&&◌, List, ◌∷◌, get_or, ltb}
use Rattle.octets.specs.Numbers.{octets, u16_at}
use Rattle.timer.specs.declared.Timer.{Timer}

unfoldable pub midnight : Timer
midnight = record { hour = 0; minute = 0; ms = 0 }

-- h 0 to 23, min 0 to 59, ms 0 to 59999
unfoldable pub timer_legal : Timer → Bool
timer_legal t = ltb t.hour 24 && ltb t.minute 60 && ltb t.ms 60000

-- advanced by 100 ms, rolling over at 60000 ms, 60 min and 24 h
unfoldable pub step_of : Timer → Timer
step_of t =
    let ms = t.ms + 100 in
    let minute = t.minute + ms / 60000 in
    let hour = t.hour + minute / 60 in
    record { hour = hour % 24; minute = minute % 60; ms = ms % 60000 }

-- the layout of 0x85, 0x86 and the records: hour, minute, and ms in two octets MSB first
unfoldable pub timer_octets : Timer → List ℕ
timer_octets t = t.hour ∷ t.minute ∷ octets 2 t.ms

unfoldable pub timer_from : List ℕ → Timer
timer_from s = record { hour = get_or s 0 0; minute = get_or s 1 0; ms = u16_at 2 s }
