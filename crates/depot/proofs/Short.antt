-- No answer is a reply longer than the reply room, and none tells more ticks than two octets hold. Assumes nothing.
use Rattle.std.specs.Prelude.{Result}
use Prim.Native.Nat.{ℕ, ◌≤◌}
use mathlib.Core.Path.{◌≡◌, refl}
use mathlib.Core.Bool.{Bool, true, false, cond}
use mathlib.Core.List.{List, ◌∷◌}
use mathlib.Core.Option.{Option, none, some}
use native.Mathlib.Omega.{arith}
use lib.ListN.{length}
use Rattle.frame.specs.declared.Refusal.{Refusal}
use Rattle.frame.specs.Shape.{reply_room}
use Rattle.octets.specs.Tests.{first}
use Rattle.frame.specs.declared.Kind.{Kind}
use Rattle.frame.specs.Judged.{data_of}
use Rattle.frame.specs.Sealed.{frame_of}
use Rattle.frame.proofs.Bounds.{longest-fits}
use Rattle.frame.proofs.Lengths.{length-frame}
use Rattle.rules.specs.Control.{known}
use Rattle.rules.specs.Command.{answered}
use Rattle.rules.specs.Desk.{Desk}
use Rattle.rules.specs.Box.{Box, Event, frame, sighting, tick, Answer as RuleAnswer, refused, reply, seen, ok, Step, step, request, served, sighted, desk_at, placed, unless_refused, frame_refusals, sighting_refusals}
use Rattle.rules.proofs.Facts.{DeskLegal}
use Rattle.rules.proofs.Replies.{obey-carried}
use Rattle.rules.proofs.TicksLeft.{TicksFit, ticks-fit}
use Rattle.store.specs.Sound.{sound}
use Rattle.store.specs.View.{view}
use Rattle.views.proofs.LegalView.{desk-of-view}
use Rattle.events.specs.declared.Answer.{Answer}
use Rattle.events.proofs.Short.{Short}
use Rattle.events.specs.Happened.{Ended}
use Rattle.depot.specs.Called.{Called, step_on}

-- ---- of the rules' answers

abbrev pub Brief : RuleAnswer → Type 0
Brief (refused r) = Unit {0}
Brief (reply t) = length t ≤ reply_room
Brief (seen w) = TicksFit w
Brief ok = Unit {0}

-- a step's answer is brief where what it gives unless it is refused is brief
unless-brief : (o : Option ℕ) (box : Box) (p : Step) → Brief p.answer → Brief (unless_refused o box p).answer
unfolding unless_refused
unless-brief none box p h = h
unless-brief (some r) box p h = tt

on-brief : (s : List ℕ) (e : Event) → (sound s ≡ true → Brief (step (view s) e).answer) → Brief (step_on s e).answer
unfolding step_on
on-brief s e h = go (sound s) h
  where
    go : (b : Bool) → (b ≡ true → Brief (step (view s) e).answer) → Brief (cond b (step (view s) e) record { answer = refused 1; box = view s }).answer
    go true f = f refl
    go false f = tt

-- the reply that carries a desk's answer
pub answer-brief : (kind : Kind) (adr control : ℕ) (d : Desk) (body : List ℕ) → DeskLegal d
    → let r = answered kind d control body in length (frame_of kind adr control (r.status ∷ r.sent)) ≤ reply_room
unfolding answered
answer-brief kind adr control d body legal =
    let r = answered kind d control body in
    let small = (obey-carried (known control) kind d body legal).small in
    omega (arith, length-frame kind adr control (r.status ∷ r.sent), longest-fits kind)

pub served-brief : (f : List ℕ) (d : Desk) → DeskLegal d → Brief (served f d).answer
unfolding served
served-brief f d legal = let p = request f in answer-brief p.kind p.address p.control d (data_of p f) legal

frame-brief : (f s : List ℕ) (room : ℕ) → sound s ≡ true → Brief (step (view s) (frame f room)).answer
unfolding step placed
frame-brief f s room e =
    let n = (request f).address in
    unless-brief (first (frame_refusals f room)) (view s) (placed (view s) n (served f (desk_at (view s) n))) (served-brief f (desk_at (view s) n) (desk-of-view s n e))

sighting-brief : (n uid mask : ℕ) (s : List ℕ) → sound s ≡ true → Brief (step (view s) (sighting n uid mask)).answer
unfolding step placed sighted
sighting-brief n uid mask s e =
    unless-brief (first (sighting_refusals n mask)) (view s) (placed (view s) n (sighted uid mask (desk_at (view s) n))) (ticks-fit uid (desk_at (view s) n) (desk-of-view s n e))

-- ---- of a call's

ended-short : (t : RuleAnswer) (box : Box) (s out : List ℕ) (a : Result Answer Refusal) (s' out' : List ℕ) → Brief t → Ended t box s out a s' out' → Short a
ended-short (refused n) box s out a s' out' h e = rw e.0.answer-is tt
ended-short (reply t) box s out a s' out' h e = rw e.0 h
ended-short (seen w) box s out a s' out' h e = rw e.0 h
ended-short ok box s out a s' out' h e = rw e.0 tt

module _ (s out : List ℕ) (a : Result Answer Refusal) (s' out' : List ℕ) where
  called-short : (e : Event) → (sound s ≡ true → Brief (step (view s) e).answer) → Called e s out a s' out' → Short a
  called-short e h c = ended-short (step_on s e).answer (step_on s e).box s out a s' out' (on-brief s e h) c.ended

  pub frame-short : (f : List ℕ) (room : ℕ) → Called (frame f room) s out a s' out' → Short a
  frame-short f room c = called-short (frame f room) (frame-brief f s room) c

  pub sighting-short : (n uid mask : ℕ) → Called (sighting n uid mask) s out a s' out' → Short a
  sighting-short n uid mask c = called-short (sighting n uid mask) (sighting-brief n uid mask s) c

  pub tick-short : Called tick s out a s' out' → Short a
  unfolding step
  tick-short c = called-short tick (λ _. tt) c
