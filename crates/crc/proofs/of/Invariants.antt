-- Of `crc::of`: what is left of the octets, worked on from c, gives the checksum of all. Assumes nothing.
use Rattle.std.proofs.Common.{◌≡◌, drop}
use Rattle.crc.specs.Crc.{crc, crc_from}
use Rattle.crc.proofs.of.Given as goal

abbrev pub invariant-loop-b : goal.invariant-loop-b
invariant-loop-b l = crc_from l.c (drop l.b-index l.s) ≡ crc l.s
