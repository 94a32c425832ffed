-- `fresh::put_rows` meets its contract. After d turns the first d rows are written. Assumes nothing.
use Prim.Native.Nat.{ℕ, ◌+◌, ◌*◌, ◌-◌}
use mathlib.Core.Path.{◌≡◌, refl, ap, ◌∙◌}
use native.Mathlib.Omega.{arith}
use lib.ListN.{length, replicate, length-take, length-drop}
use Rattle.octets.specs.Parts.{put, joined}
use Rattle.octets.proofs.Puts.{put-length}
use Rattle.octets.proofs.Lent.{put-mid}
use Rattle.table.specs.Entries.{desks}
use Rattle.store.specs.Layout.{row_width}
use Rattle.fresh.specs.Fresh.{rows_begin, fresh_row}
use Rattle.fresh.proofs.FreshRows.{row-length, rows_next}
use Rattle.fresh.proofs.put_rows.Goals as goal

pub loop-d-init : goal.loop-d-init
unfolding put joined
loop-d-init c = (refl, refl)

pub fresh_row-requires : goal.fresh_row-requires
fresh_row-requires c = simp (length-take, length-drop) (omega arith)

pub loop-d-preserved : goal.loop-d-preserved
loop-d-preserved c =
    let s = c.args.s.now in
    let d = c.loop-d.d in
    let at = rows_begin + row_width * d in
    let made = c.fresh_row in
    let e =
    put-mid at (at + row_width - at) made.new.row c.loop-d.s made.auto.row (omega arith)
    ∙ rows_next row_width d rows_begin at fresh_row made.new.row s c.loop-d.s row-length refl made.ensures c.loop-d.invariant.1
    in
    (ap length e ∙ put-length _ _ _, e)

pub returns : goal.returns
returns c =
    let all : c.loop-d.d ≡ desks = omega arith in
    c.loop-d.invariant.1 ∙ ap (λ (k : ℕ). put rows_begin (joined (replicate k fresh_row)) c.args.s.now) all
