-- Of `fresh::put_rows`: the first d rows are written. Assumes nothing.
use Rattle.std.proofs.Common.{◌≡◌, length, replicate}
use Rattle.octets.specs.Parts.{put, joined}
use Rattle.fresh.specs.Fresh.{rows_begin, fresh_row}
use Rattle.fresh.proofs.put_rows.Given as goal

abbrev pub invariant-loop-d : goal.invariant-loop-d
invariant-loop-d l = (length l.s ≡ length l.initial.s) × (l.s ≡ put rows_begin (joined (replicate l.d fresh_row)) l.initial.s)
