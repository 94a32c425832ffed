-- The user's three demands, a theorem for each of their sentences, over the promises of the calls. Assumes nothing.
use Rattle.std.specs.Prelude.{Ok, Result, Err}
use Prim.Native.Nat.{ℕ, ◌≤◌, ◌<◌}
use mathlib.Core.Path.{◌≡◌, refl, subst}
use mathlib.Core.Bool.{Bool, true, false, cond, not}
use mathlib.Core.List.{List}
use mathlib.Core.Logic.{◌⊎◌, inl, inr}
use mathlib.Core.Option.{none, some}
use native.Mathlib.Omega.{arith}
use lib.ListN.{length, take}
use lib.Dec.{eqb}
use Rattle.table.specs.Entries.{desks}
use Rattle.rules.specs.Config.{block_size}
use Rattle.frame.specs.Shape.{reply_room}
use Rattle.octets.specs.Tests.{first, all_of}
use Rattle.frame.specs.declared.Refusal.{Refusal}
use Rattle.frame.specs.Refusal.{number_of, Refuses}
use Rattle.rules.specs.declared.Seen.TheVariants.{Ignored}
use Rattle.rules.specs.Box.{Event, frame, seen, fresh_box, desk_at, run, after}
use Rattle.rules.specs.Events.{history}
use Rattle.rules.specs.Cases.{cases}
use Rattle.rules.proofs.Cases.{cases-hold}
use Rattle.store.specs.Layout.{store_size}
use Rattle.fresh.specs.Fresh.{fresh_store}
use Rattle.store.specs.View.{view}
use Rattle.store.specs.Sound.{sound}
use Rattle.events.specs.declared.Answer.{Answer}
use Rattle.events.specs.declared.Answer.TheVariants.{Reply, Sighted, Done}
use Rattle.depot.specs.Called.{Called, test_refusals, TestedOf, Tested, fresh_refusals, MadeOf, Made}
use Rattle.requests.specs.declared.Request.{Request}
use Rattle.maker.specs.Maker.{Requested}
use Rattle.demands.specs.History.{Deed, events_of, History}
use Rattle.demands.specs.Answers.{heard, tests_of, of_its_kind, GaveAll, heard_by}
use Rattle.demands.specs.Exchange.{ReadBack}
use Rattle.demands.proofs.Steps.{lived}
use Rattle.demands.proofs.Listed.{refused-first, always-of-kind}
use Rattle.demands.proofs.Isolated.{isolated}
use Rattle.demands.proofs.HostAndBox.{host-hears, made-frame, made-carriable}

-- 1. Nothing harms the box: any octets, any numbers, any store. The answer is of the event's kind, or the first refusal of its list that is
-- given; and a refused call writes nothing
pub nothing-harms : (e : Event) (s out : List ℕ) (a : Result Answer Refusal) (s' out' : List ℕ) → Called e s out a s' out'
    → (of_its_kind e (heard a out') ≡ true) × ((r : Refusal) → a ≡ Err r → (first (tests_of s e) ≡ some (number_of r)) × (s' ≡ s) × (out' ≡ out))
nothing-harms e s out a s' out' c = (always-of-kind e s out a s' out' c, λ r q. refused-first e s out a s' out' c r q)

-- a store is sound and the test says so, or it is refused with 1
pub sound-or-refused : (s : List ℕ) (a : Result Answer Refusal) → Tested s a → ((sound s ≡ true) × (a ≡ Ok Done)) ⊎ ((sound s ≡ false) × Refuses Err 1 a)
unfolding test_refusals first
sound-or-refused s a t = go (sound s) t.tested
  where
    go : (b : Bool) → TestedOf (cond (not b) (some 1) none) a → ((b ≡ true) × (a ≡ Ok Done)) ⊎ ((b ≡ false) × Refuses Err 1 a)
    go true p = inl (refl, p)
    go false p = inr (refl, p)

-- a buffer is made fresh, or refused with 1 and kept
pub fresh-or-kept : (s : List ℕ) (a : Result Answer Refusal) (s' : List ℕ) → Made s a s' → ((a ≡ Ok Done) × (s' ≡ fresh_store)) ⊎ (Refuses Err 1 a × (s' ≡ s))
unfolding fresh_refusals first
fresh-or-kept s a s' m = go (eqb (length s) store_size) m.made
  where
    go : (b : Bool) → MadeOf (cond (not b) (some 1) none) s a s' → ((a ≡ Ok Done) × (s' ≡ fresh_store)) ⊎ (Refuses Err 1 a × (s' ≡ s))
    go true p = inl p
    go false p = inr p

-- 2. Exactly the paper's answers: over any history the answers, the output octets and what is kept are those of the rules, and the store is sound
pub papers-answers : (ds : List Deed) (s : List ℕ) → History ds s
    → (sound s ≡ true) × (view s ≡ after fresh_box (events_of ds)) × GaveAll (run fresh_box (events_of ds)) ds
papers-answers ds s h = let l = lived ds s h in (l.still, l.says, l.gave)

-- and what the host makes is read by the box as that request, what the box replies is read back as that reply: by the promises of maker,
-- box and reader
pub read-each-other : (q : Request) (buf : List ℕ) (n : ℕ) (buf' : List ℕ) → length q.bytes ≡ block_size → Requested q buf (Ok n) buf'
    → (s out : List ℕ) → sound s ≡ true → reply_room ≤ length out
    → (a : Result Answer Refusal) (s' out' : List ℕ) → Called (frame (take n buf') (length out)) s out a s' out' → ReadBack q s a s' out'
read-each-other q buf n buf' size made s out still room a s' out' called =
    host-hears q (made-carriable q buf n buf' made size) s still out room a s' out'
    (subst (λ (f : List ℕ). Called (frame f (length out)) s out a s' out') (made-frame q buf n buf' made) called)

-- 3. No desk shows in another: two histories, over whatever buffers, whose events for a desk are equal; whatever the other seven do
pub no-desk-shows : (n : ℕ) → n < desks → (ds ds' : List Deed) (s s' : List ℕ) → History ds s → History ds' s'
    → history n (events_of ds) ≡ history n (events_of ds')
    → (heard_by n ds ≡ heard_by n ds') × (desk_at (view s) n ≡ desk_at (view s') n)
no-desk-shows = isolated

-- the ticks of an ignored sighting are heard (document 02, vii): who hears them was answered with them
pub ticks-heard : (a : Result Answer Refusal) (out : List ℕ) (left : ℕ) → heard a out ≡ seen (Ignored left) → a ≡ Ok (Sighted (Ignored left))
ticks-heard (Err r) out left e = let z : ◌≡◌ {A = ℕ} 0 1 = cc in absurd (omega arith)
ticks-heard (Ok (Reply n)) out left e = let z : ◌≡◌ {A = ℕ} 0 1 = cc in absurd (omega arith)
ticks-heard (Ok (Sighted w)) out left e = cc
ticks-heard (Ok Done) out left e = let z : ◌≡◌ {A = ℕ} 0 1 = cc in absurd (omega arith)

-- M1 to M12, of the definitions that the promises cite
pub edges : all_of (λ (b : Bool). b) cases ≡ true
edges = cases-hold
