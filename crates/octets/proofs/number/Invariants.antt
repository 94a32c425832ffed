-- Of `octets::number`: after i turns the sum is the number of the first i octets, and below 256 ^ i. Assumes nothing.
use Rattle.std.proofs.Common.{◌≡◌, ◌^◌, ◌<◌, take}
use Rattle.octets.specs.Numbers.{number}
use Rattle.octets.proofs.number.Given as goal

abbrev pub invariant-loop-b : goal.invariant-loop-b
invariant-loop-b g l = (l.sum ≡ number (take l.b-index l.b-items)) × (l.sum < 256 ^ l.b-index)
