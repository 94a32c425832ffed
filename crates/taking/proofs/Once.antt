-- Two outcomes that a call's promise allows are equal: how much is taken, and all that is carried or lent, but for the octets of the store,
-- of which what they say is equal. Assumes nothing.
use Prim.Native.Nat.{ℕ, suc, ◌+◌}
use mathlib.Core.Path.{◌≡◌, refl, sym, ap, ap₂, subst, ◌∙◌}
use mathlib.Core.Bool.{Bool, true, false, cond}
use mathlib.Core.List.{List, [], ◌∷◌}
use lib.Dec.{eqb, leb}
use lib.ListN.{length, drop}
use Rattle.octets.specs.Parts.{put}
use Rattle.text.specs.Listing.{longest_line}
use Rattle.text.specs.Whole.{lf}
use Rattle.depot.proofs.Once.{AsOne, kept-once}
use Rattle.feeding.specs.declared.Begun.{Begun}
use Rattle.feeding.specs.Feeding.{read_off}
use Rattle.readoff.specs.ReadOff.{ReadOff}
use Rattle.answering.proofs.Once.{Same as Printing, answered-once}
use Rattle.turning.specs.Turning.{State, lent, LineEnds, LineGoesOn, Takes, Ends}
use Rattle.taking.specs.Taking.{roomy, Took, TookPart, Finished}

-- the state with another store
abbrev pub stored : State → List ℕ → State
stored a u = lent a.line a.written a.held u a.reply a.out

pub record Same (a b : State) : Type 0 where
  pub others : b ≡ stored a b.store
  pub stores : AsOne a.store b.store

same_by : (a b : State) → a.line ≡ b.line → a.written ≡ b.written → a.held ≡ b.held → a.reply ≡ b.reply → a.out ≡ b.out → AsOne a.store b.store → Same a b
same_by a b l w h r o s =
    record {
      others = sym
          (ap (λ (x : Begun). lent x a.written a.held b.store a.reply a.out) l
          ∙ ap (λ (x : ℕ). lent b.line x a.held b.store a.reply a.out) w
          ∙ ap (λ (x : List ℕ). lent b.line b.written x b.store a.reply a.out) h
          ∙ ap₂ (λ (x y : List ℕ). lent b.line b.written b.held b.store x y) r o);
      stores = s;
    }

module _ (c : ℕ) (a : State) (u : List ℕ) (one : AsOne a.store u) (b b'' : State) where
  ends-once : LineEnds a b → LineEnds (stored a u) b'' → Same b b''
  ends-once p q =
      let o = answered-once a.store u a.reply (drop a.written a.out) p.count q.count b.store b''.store b.reply b''.reply p.rest q.rest one (read_off a.line a.held) p.answered.read q.answered.read in
      same_by b b'' (p.line-is ∙ sym q.line-is)
      (p.written_is ∙ ap (λ (k : ℕ). a.written + k) o.counts ∙ sym q.written_is)
      (p.held-is ∙ sym q.held-is) o.replies
      (p.out-is ∙ ap (λ (x : List ℕ). put a.written x a.out) o.outputs ∙ sym q.out-is) o.stores

  goes-once : LineGoesOn c a b → LineGoesOn c (stored a u) b'' → Same b b''
  goes-once p q =
      same_by b b'' (p.feeds.state-is ∙ sym q.feeds.state-is) (p.written_is ∙ sym q.written_is) (p.feeds.buffer-is ∙ sym q.feeds.buffer-is)
      (p.reply-is ∙ sym q.reply-is) (p.out-is ∙ sym q.out-is)
      (subst (λ (x : List ℕ). AsOne x b''.store) (sym p.store_is) (subst (AsOne a.store) (sym q.store_is) one))

  takes-once : Takes c a b → Takes c (stored a u) b'' → Same b b''
  unfolding Takes
  takes-once p q = go (eqb c lf) p q
    where
      go : (t : Bool) → cond t (LineEnds a b) (LineGoesOn c a b) → cond t (LineEnds (stored a u) b'') (LineGoesOn c (stored a u) b'') → Same b b''
      go true x y = ends-once x y
      go false x y = goes-once x y

abbrev Alike : ℕ → State → ℕ → State → Type 0
Alike n b n'' b'' = (n ≡ n'') × Same b b''

stopped : (a : State) (u : List ℕ) → AsOne a.store u → (n : ℕ) (b : State) (n'' : ℕ) (b'' : State) → (n ≡ 0) × (b ≡ a) → (n'' ≡ 0) × (b'' ≡ stored a u) → Alike n b n'' b''
stopped a u one n b n'' b'' p q =
    (p.0 ∙ sym q.0, subst (λ (x : State). Same x b'') (sym p.1) (subst (Same a) (sym q.1) (record { others = refl; stores = one })))

took-once : (part : List ℕ) (a : State) (u : List ℕ) → AsOne a.store u → (n : ℕ) (b : State) (n'' : ℕ) (b'' : State) → Took part a n b → Took part (stored a u) n'' b'' → Alike n b n'' b''
unfolding Took roomy
took-once [] a u one n b n'' b'' p q = stopped a u one n b n'' b'' p q
took-once (c ∷ part) a u one n b n'' b'' p q = go (leb (a.written + longest_line) (length a.out)) (λ m v o k k''. took-once part m v o k b k'' b'') p q
  where
    go : (t : Bool) → ((m : State) (v : List ℕ) → AsOne m.store v → (k k'' : ℕ) → Took part m k b → Took part (stored m v) k'' b'' → Alike k b k'' b'')
        → cond t ((m : State) × (k : ℕ) × (n ≡ suc k) × Takes c a m × Took part m k b) ((n ≡ 0) × (b ≡ a))
        → cond t ((m : State) × (k : ℕ) × (n'' ≡ suc k) × Takes c (stored a u) m × Took part m k b'') ((n'' ≡ 0) × (b'' ≡ stored a u)) → Alike n b n'' b''
    go true then (m, k, is, one', rest) (m'', k'', is'', one'', rest'') =
        let s = takes-once c a u one m m'' one' one'' in
        let r = then m m''.store s.stores k k'' rest (subst (λ (x : State). Took part x k'' b'') s.others rest'') in
        (is ∙ ap suc r.0 ∙ sym is'', r.1)
    go false then x y = stopped a u one n b n'' b'' x y

pub part-once : (part : List ℕ) (a : State) (n : ℕ) (b : State) (n'' : ℕ) (b'' : State) → TookPart part a n b → TookPart part a n'' b'' → (n ≡ n'') × Same b b''
part-once part a n b n'' b'' p q = took-once part a a.store (record { sounds = refl; views = refl }) n b n'' b'' p.took q.took

pub finish-once : (line : Begun) (held s reply out : List ℕ) (n n'' : ℕ) (s' s'' reply' reply'' out' out'' : List ℕ)
    → Finished line held s reply out n s' reply' out' → Finished line held s reply out n'' s'' reply'' out'' → Printing n n'' s' s'' reply' reply'' out' out''
unfolding Ends
finish-once line held s reply out n n'' s' s'' reply' reply'' out' out'' p q = go (eqb line.held 0) p.ends q.ends
  where
    go : (t : Bool) → cond t ((n ≡ 0) × (s' ≡ s) × (reply' ≡ reply) × (out' ≡ out)) (ReadOff line held s reply out n s' reply' out')
        → cond t ((n'' ≡ 0) × (s'' ≡ s) × (reply'' ≡ reply) × (out'' ≡ out)) (ReadOff line held s reply out n'' s'' reply'' out'') → Printing n n'' s' s'' reply' reply'' out' out''
    go true x y =
        record { counts = x.0 ∙ sym y.0; stores = kept-once s s s' s'' (record { sounds = refl; views = refl }) x.1 y.1; replies = x.2 ∙ sym y.2; outputs = x.3 ∙ sym y.3 }
    go false x y = answered-once s s reply out n n'' s' s'' reply' reply'' out' out'' (record { sounds = refl; views = refl }) (read_off line held) x.read y.read
