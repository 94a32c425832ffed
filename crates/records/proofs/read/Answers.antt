-- `records::read` meets its contract: its tests, and then what is wanted goes. Assumes nothing.
use native.Mathlib.Omega.{arith}
use mathlib.Core.Path.{◌≡◌, sym, ◌∙◌}
use Rattle.octets.specs.Numbers.{u16_at}
use Rattle.keeping.specs.Kept.{kept}
use Rattle.records.proofs.Answers.{plain-obeyed}
use Rattle.records.proofs.TableAnswers.{none-asked, none-held, some-sent}
use Rattle.records.proofs.read.Goals as goal
use Rattle.records.proofs.read.Goals.{Else-asked-eq0}

-- some are asked for
asked : (c : Else-asked-eq0) → u16_at 0 c.args.body.now ≡ 0 → ⊥
asked c q = c.if-asked-eq0.false (c.get16-asked.ensures ∙ q)

pub send-requires : goal.send-requires
send-requires c =
    (c.requires.0, omega (arith, c.min.ensures, c.held-there.ensures.0), c.requires.2)

pub returns-then-asked-eq0 : goal.returns-then-asked-eq0
returns-then-asked-eq0 c =
    plain-obeyed _ c.requires.0 _ c.args.d.low _ _ 0x11 _ _ (none-asked _ _ _ (sym c.get16-asked.ensures ∙ c.if-asked-eq0.true)) c.plain.ensures

pub returns-then-there-eq0 : goal.returns-then-there-eq0
returns-then-there-eq0 c =
    plain-obeyed _ c.requires.0 _ c.args.d.low _ _ 0x92 _ _ (none-held _ _ _ (asked (goal.at.returns-then-there-eq0 c).Else-asked-eq0) (sym c.held-there.ensures.0 ∙ c.if-there-eq0.true)) c.plain-then-there-eq0.ensures

pub returns : goal.returns
returns c =
    rw (some-sent c.args.kind (kept c.args.d.number c.args.s.now) c.args.body.now (asked (goal.at.returns c).Else-asked-eq0) (λ q. c.if-there-eq0.false (c.held-there.ensures.0 ∙ q)) c.min.result (c.min.ensures ∙ rw (c.get16-asked.ensures, c.held-there.ensures.0))) c.send.ensures
