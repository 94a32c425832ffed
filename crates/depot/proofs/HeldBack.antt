-- Document 02 (vii), of the call itself: a sighting that is answered "ignored", whatever the store, tells ticks from 1 to VALID-TIME in force
-- at the desk, and they are what the lock has left before the call and after it; and each lock is told so. Assumes nothing.
use Rattle.std.specs.Prelude.{Result, Ok}
use mathlib.Core.Path.{◌≡◌, refl, ap, ◌∙◌}
use Prim.Native.Nat.{ℕ, ◌≤◌, ◌<◌}
use mathlib.Core.Bool.{Bool, true, false, cond}
use mathlib.Core.List.{List}
use mathlib.Core.Option.{Option, none, some}
use native.Mathlib.Omega.{arith}
use lib.ListN.{length, get_or}
use lib.Seq.{set-get_or}
use Rattle.frame.specs.declared.Refusal.{Refusal}
use Rattle.octets.specs.Tests.{first}
use Rattle.locks.specs.declared.Lock.{Lock}
use Rattle.locks.specs.Locks.{ticks_left}
use Rattle.rules.specs.declared.Seen.TheVariants.{Ignored}
use Rattle.rules.specs.Desk.{Desk, fresh_desk}
use Rattle.rules.specs.Sighting.{seen_as, after_seen}
use Rattle.rules.specs.Box.{sighting, refused, sighted, placed, unless_refused, sighting_refusals, step, desk_at}
use Rattle.rules.proofs.TicksLeft.{left-before-and-after, from-1-to-valid, of-each-lock}
use Rattle.store.specs.View.{view}
use Rattle.store.specs.Sound.{sound}
use Rattle.views.proofs.LegalView.{desk-of-view}
use Rattle.rules.specs.declared.Seen.{Seen}
use Rattle.events.specs.declared.Answer.{Answer}
use Rattle.events.specs.declared.Answer.TheVariants.{Sighted}
use Rattle.events.specs.Happened.{Ended}
use Rattle.depot.specs.Called.{step_on, Called}

-- the ticks that an ignored sighting of a UID at desk n tells, by the stores before and after
pub record HeldBack (n uid left : ℕ) (s s' : List ℕ) : Type 0 where
  pub low : 1 ≤ left
  pub high : left ≤ (desk_at (view s) n).valid
  pub before : ticks_left uid (desk_at (view s) n).locks ≡ left
  pub after : ticks_left uid (desk_at (view s') n).locks ≡ left
  pub same : view s' ≡ view s

module _ (n uid mask left : ℕ) (s out s' out' : List ℕ) where
  abbrev desk : Desk
  desk = desk_at (view s) n

  told : sound s ≡ true → seen_as uid desk ≡ Ignored left → view s' ≡ (placed (view s) n (sighted uid mask desk)).box → HeldBack n uid left s s'
  unfolding placed sighted after_seen desk_at
  told e ignored says =
      let range = from-1-to-valid uid desk (desk-of-view s n e) left ignored in
      let before = (left-before-and-after uid desk mask left ignored).0 in
      let same : view s' ≡ view s = says ∙ rw ignored (set-get_or (view s) n fresh_desk) in
      record { low = range.0; high = range.1; before = before; after = rw same before; same = same }

  by-refusals : (o : Option ℕ) → sound s ≡ true
      → (let t = unless_refused o (view s) (placed (view s) n (sighted uid mask desk)) in Ended t.answer t.box s out (Ok (Sighted (Ignored left))) s' out') → HeldBack n uid left s s'
  unfolding unless_refused placed sighted
  by-refusals none e p = told e (let same : (Ok (Sighted (Ignored left))) ≡ Ok (Sighted (seen_as uid desk)) = p.0 in cc) p.2.says
  by-refusals (some r) e p = let z : ◌≡◌ {A = ℕ} 0 1 = cc p.0.answer-is in absurd (omega arith)

  pub held_back : Called (sighting n uid mask) s out (Ok (Sighted (Ignored left))) s' out' → HeldBack n uid left s s'
  unfolding step_on step
  held_back c = go (sound s) refl c.ended
    where
      go : (b : Bool) → sound s ≡ b
          → (let t = cond b (step (view s) (sighting n uid mask)) record { answer = refused 1; box = view s } in Ended t.answer t.box s out (Ok (Sighted (Ignored left))) s' out')
          → HeldBack n uid left s s'
      go true e p = by-refusals (first (sighting_refusals n mask)) e p
      go false e p = let z : ◌≡◌ {A = ℕ} 0 1 = cc p.0.answer-is in absurd (omega arith)

module _ (n mask i : ℕ) (absent : Lock) (s out : List ℕ) (a : Result Answer Refusal) (s' out' : List ℕ) where
  abbrev lock : Lock
  lock = get_or (desk_at (view s) n).locks i absent

  -- each lock of a sound store is told so: a sighting of its UID at its desk that no test refuses is ignored, with its own ticks
  pub each-lock-told : sound s ≡ true → first (sighting_refusals n mask) ≡ none → i < length (desk_at (view s) n).locks
      → Called (sighting n lock.uid mask) s out a s' out' → a ≡ Ok (Sighted (Ignored lock.left))
  unfolding step_on step unless_refused placed sighted
  each-lock-told e passed inside c =
      let t = rw (e, passed) at c.ended in
      t.0 ∙ ap (λ (x : Seen). Ok (Sighted x)) (of-each-lock (desk_at (view s) n) i absent (desk-of-view s n e) inside)
