-- Of `fresh::put_defaults`: the first k blocks are written. Assumes nothing.
use Rattle.std.proofs.Common.{◌≡◌, ◌*◌, length, take}
use Rattle.octets.specs.Parts.{put}
use Rattle.rules.specs.Config.{block_size, defaults}
use Rattle.fresh.proofs.put_defaults.Given as goal

abbrev pub invariant-loop-k : goal.invariant-loop-k
invariant-loop-k l = (length l.memory ≡ length l.initial.memory) × (l.memory ≡ put 0 (take (block_size * l.k) defaults) l.initial.memory)
