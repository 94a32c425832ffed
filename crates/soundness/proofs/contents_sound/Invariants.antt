-- Of `soundness::contents_sound`: the first d rows are tested. Assumes nothing.
use Rattle.std.proofs.Common.{◌≡◌, true}
use Rattle.octets.specs.Tests.{every}
use Rattle.store.specs.Layout.{areas}
use Rattle.store.specs.View.{rows_in, in_use}
use Rattle.soundness.proofs.Contents.{desk_sound}
use Rattle.soundness.proofs.contents_sound.Given as goal

abbrev pub invariant-loop-d : goal.invariant-loop-d
invariant-loop-d l = every l.d (desk_sound (rows_in (areas l.s)) (in_use l.s)) ≡ true
