-- `reader::answers_to` meets its contract. Assumes nothing.
use mathlib.Core.Path.{◌≡◌, sym, ap, ◌∙◌}
use mathlib.Core.Bool.{Bool, true, false, not}
use borrow.Author.Tests.{not-false}
use native.Mathlib.Omega.{arith}
use Rattle.frame.specs.declared.Frame.{Frame}
use Rattle.frame.specs.declared.Way.TheVariants.{Reply}
use Rattle.frame.proofs.Verdict.{sound-fits, data-lent}
use Rattle.requests.specs.Request.{control_of}
use Rattle.possible.specs.Possible.{possible}
use Rattle.reader.specs.declared.Told.{Told}
use Rattle.reader.specs.Reader.{told_of}
use Rattle.reader.specs.Reader as reader
use Rattle.reader.proofs.Judging.{kinds-same, not_true, other-kind, other-desk, other-control, not-possible, by_count}
use Rattle.reader.proofs.answers_to.Goals as goal
use Rattle.reader.proofs.answers_to.Goals.{After-is_possible, After-reply_to-wanted, After-ne, Else-f-wanted, Else-ne}

-- the kind and the control octet that are asked for
control-is : (c : After-reply_to-wanted) → c.reply_to-wanted.result.control ≡ control_of c.args.q.ask
control-is c = ap (λ (g : Frame). g.control) c.reply_to-wanted.ensures

-- what each test told
compared : (c : After-ne) → c.ne.result ≡ not (reader.same_kind c.args.f.kind c.args.q.kind)
compared c =
    c.ne.ensures ∙ ap not (kinds-same c.args.f.kind c.reply_to-wanted.result.kind ∙ ap (reader.same_kind c.args.f.kind) (ap (λ (g : Frame). g.kind) c.reply_to-wanted.ensures))

same_kind : (c : Else-ne) → reader.same_kind c.args.f.kind c.args.q.kind ≡ true
same_kind c =
    not-false _ (sym (c.ne.ensures ∙ ap not (kinds-same c.args.f.kind c.reply_to-wanted.result.kind ∙ ap (reader.same_kind c.args.f.kind) (ap (λ (g : Frame). g.kind) c.reply_to-wanted.ensures))) ∙ c.if-ne.false)

same-control : (c : Else-f-wanted) → c.args.f.control ≡ control_of c.args.q.ask
same-control c = c.if-f-wanted.false ∙ ap (λ (g : Frame). g.control) c.reply_to-wanted.ensures

possibly : (c : After-is_possible) (b : Bool) → possible c.args.q c.args.t.status c.args.f.len ≡ b
    → possible c.args.q (told_of c.args.f c.args.reply.now).status c.args.f.len ≡ b
possibly c b e = ap (λ (t : Told). possible c.args.q t.status c.args.f.len) (sym c.requires.1) ∙ e

pub returns-then-ne : goal.returns-then-ne
returns-then-ne c = other-kind _ _ _ (not_true _ (sym (compared (goal.at.returns-then-ne c).After-ne) ∙ c.if-ne.true))

pub returns-then-f-q : goal.returns-then-f-q
returns-then-f-q c = other-desk _ _ _ (same_kind (goal.at.returns-then-f-q c).Else-ne) c.if-f-q.true

pub returns-then-f-wanted : goal.returns-then-f-wanted
returns-then-f-wanted c =
    other-control _ _ _ (same_kind (goal.at.returns-then-f-wanted c).Else-ne) c.if-f-q.false (λ h. c.if-f-wanted.true (h ∙ sym (control-is (goal.at.returns-then-f-wanted c).After-reply_to-wanted)))

pub returns-then-not-is_possible : goal.returns-then-not-is_possible
returns-then-not-is_possible c =
    not-possible _ _ _ (same_kind (goal.at.returns-then-not-is_possible c).Else-ne) c.if-f-q.false (same-control (goal.at.returns-then-not-is_possible c).Else-f-wanted) (possibly (goal.at.returns-then-not-is_possible c).After-is_possible false (sym c.is_possible.ensures ∙ c.if-not-is_possible.true))

pub overflow_add-f : goal.overflow_add-f
overflow_add-f c = omega (arith, sound-fits Reply _ _ c.requires.0)

pub slice_bounds-count_right-end : goal.slice_bounds-count_right-end
slice_bounds-count_right-end c = omega (arith, sound-fits Reply _ _ c.requires.0)

pub returns : goal.returns
returns c =
    c.count_right.ensures
    ∙ by_count _ _ _ (same_kind (goal.at.returns c).Else-ne) c.if-f-q.false (same-control (goal.at.returns c).Else-f-wanted) (possibly (goal.at.returns c).After-is_possible true (sym c.is_possible.ensures ∙ c.if-not-is_possible.false)) _
    (data-lent _ _)
