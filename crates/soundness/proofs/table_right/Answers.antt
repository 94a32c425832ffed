-- `soundness::table_right` meets its contract: each way rewrites the tests by those that led there. Assumes nothing.
use mathlib.Core.Path.{refl}
use lib.ListN.{length, get_or}
use native.Mathlib.Omega.{arith}
use borrow.Author.Tests.{le-leb, lt-leb}
use Rattle.table.specs.Entries.{share}
use Rattle.store.specs.Rows.{due_at}
use Rattle.store.proofs.RowTests.{table-tests}
use Rattle.std.proofs.Common.{sym, ◌∙◌}
use Rattle.soundness.proofs.table_right.Goals as goal

pub returns-then-held-gt-SHARE : goal.returns-then-held-gt-SHARE
returns-then-held-gt-SHARE c = record { told = λ rs l p. rw (table-tests _ _ rs l p, ← l, lt-leb (length rs) share (omega (arith, l, c.if-held-gt-SHARE.true))) }

pub returns-then-not-mark_right : goal.returns-then-not-mark_right
returns-then-not-mark_right c =
    record {
      told = λ rs l p.
          rw (table-tests _ _ rs l p, (sym c.mark_right.ensures ∙ c.if-not-mark_right.true), ← l, le-leb (length rs) share (omega (arith, l, c.if-held-gt-SHARE.false)));
    }

pub overflow_cast-row : goal.overflow_cast-row
overflow_cast-row c = omega (arith, c.fits-row due_at)

pub returns-then-row-held : goal.returns-then-row-held
returns-then-row-held c =
    let a = c.args in
    record {
      told = λ rs l p.
          rw (
            table-tests _ _ rs l p,
            (sym c.mark_right.ensures ∙ c.if-not-mark_right.false),
            lt-leb (get_or a.row.now due_at 0) a.held (omega (arith, c.if-row-held.true)),
            ← l,
            le-leb (length rs) share (omega (arith, l, c.if-held-gt-SHARE.false)),
          );
    }

pub returns : goal.returns
returns c =
    let a = c.args in
    record {
      told = λ rs l p.
          rw (
            table-tests _ _ rs l p,
            (sym c.mark_right.ensures ∙ c.if-not-mark_right.false),
            le-leb (get_or a.row.now due_at 0) a.held (omega (arith, c.if-row-held.false)),
            ← l,
            le-leb (length rs) share (omega (arith, l, c.if-held-gt-SHARE.false)),
          ) refl;
    }
