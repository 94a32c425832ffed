-- An answer that is no reply longer than the reply room, and tells no more ticks than two octets hold. Assumes nothing.
use Rattle.std.specs.Prelude.{Result, Ok, Err}
use Prim.Native.Nat.{◌≤◌}
use Rattle.frame.specs.declared.Refusal.{Refusal}
use Rattle.frame.specs.Shape.{reply_room}
use Rattle.rules.proofs.TicksLeft.{TicksFit}
use Rattle.events.specs.declared.Answer.{Answer}
use Rattle.events.specs.declared.Answer.TheVariants.{Reply, Sighted, Done}

abbrev pub Short : Result Answer Refusal → Type 0
Short (Err r) = Unit {0}
Short (Ok (Reply n)) = n ≤ reply_room
Short (Ok (Sighted w)) = TicksFit w
Short (Ok Done) = Unit {0}
