-- The paper's useless boxes: for each a few calls after which no history has what such a box would do. Assumes nothing.
use Rattle.std.specs.Prelude.{Result, Ok, Err}
use Prim.Native.Nat.{ℕ, ◌<◌}
use mathlib.Core.Path.{◌≡◌, refl, sym, ap, ◌∙◌}
use mathlib.Core.List.{List, [], ◌∷◌, ◌++◌}
use native.Mathlib.Omega.{arith}
use lib.ListN.{length, get_or, take, replicate}
use borrow.Author.Tests.{eq-eqb, ne_eqb}
use Rattle.frame.specs.Shape.{reply_room}
use Rattle.octets.specs.Tests.{first}
use Rattle.octets.specs.Numbers.{octets}
use Rattle.octets.proofs.Numbers.{octets-length}
use Rattle.table.specs.Entries.{share}
use Rattle.frame.specs.declared.Kind.{Kind}
use Rattle.frame.specs.declared.Kind.TheVariants.{Standard}
use Rattle.frame.specs.declared.Refusal.{Refusal}
use Rattle.frame.specs.Sealed.{frame_of}
use Rattle.rules.specs.declared.Seen.TheVariants.{Ignored, Recorded}
use Rattle.rules.specs.Box.{fresh_box, Answer as RuleAnswer, refused, reply, seen, ok}
use Rattle.rules.specs.Desk.{Desk}
use Rattle.rules.specs.Control.{commands, known_in, known, sized_for}
use Rattle.rules.specs.Command.{row_tests, table_tests, result, row_effect, table_effect, tests, unless, obey, answered}
use Rattle.rules.specs.Records.{goes, counted}
use Rattle.rules.specs.Events.{concerns, answers_of}
use Rattle.rules.proofs.Computed.{computed}
use Rattle.events.specs.declared.Answer.{Answer}
use Rattle.events.specs.declared.Answer.TheVariants.{Sighted}
use Rattle.requests.proofs.Values.{two_back}
use Rattle.demands.specs.History.{Call, frame, sighting, tick, Deed, events_of, History}
use Rattle.demands.specs.Answers.{heard, heard_by}
use Rattle.demands.proofs.Isolated.{heard-of-desk}

-- a request to desk 0 in a standard frame, with an output that has room; and its reply
abbrev ask : ℕ → List ℕ → Call
ask control body = frame (frame_of Standard 0 control body) (replicate reply_room 0)

abbrev reply_of : ℕ → List ℕ → List ℕ
reply_of control sent = frame_of Standard 0 control (0x00 ∷ sent)

abbrev zeros : ℕ → List ℕ
zeros n = replicate n 0

abbrev deed : Call → Result Answer Refusal → List ℕ → Deed
deed c a o = record { call = c; answer = a; output = o }

-- what desk 0 heard of its call k
abbrev heard_at : ℕ → List RuleAnswer → RuleAnswer
heard_at k hs = get_or hs k ok

abbrev octets_in : RuleAnswer → List ℕ
octets_in (refused n) = []
octets_in (reply t) = t
octets_in (seen w) = []
octets_in ok = []

-- what came of the calls, where the rules' answers to desk 0 are computed
module _ (ds : List Deed) (s : List ℕ) (h : History ds s) (as' : List RuleAnswer) (e : answers_of 0 fresh_box (events_of ds) ≡ as') where
  came : heard_by 0 ds ≡ as'
  came = heard-of-desk 0 ds s h ∙ e

-- refuses all: a tick of a fresh store is answered ok
pub refuses-all : (a : Result Answer Refusal) (o s : List ℕ) (r : Refusal) → History (deed tick a o ∷ []) s → a ≡ Err r → ⊥
unfolding computed concerns answers_of heard_by
refuses-all a o s r h e =
    let f : heard a o ≡ ok = ap (heard_at 0) (came (deed tick a o ∷ []) s h (ok ∷ []) refl) in
    let z : ◌≡◌ {A = ℕ} 0 1 = cc in
    omega arith

-- a constant reply, and a box that writes nothing: a login, a write and a read. What is read is what was written, and no reply of a login
module _ (a b c : Result Answer Refusal) (x y z s : List ℕ) where
  abbrev written-and-read : List Deed
  written-and-read = deed (ask 0xA0 (zeros 4)) a x ∷ deed (ask 0x81 (0x02 ∷ 1 ∷ zeros 13)) b y ∷ deed (ask 0x80 (0x02 ∷ [])) c z ∷ []

  read_back : History written-and-read s → (heard a x ≡ reply (reply_of 0xA0 [])) × (heard c z ≡ reply (reply_of 0x80 (1 ∷ zeros 13)))
  unfolding computed concerns answers_of heard_by
  read_back h =
      let e = came written-and-read s h (reply (reply_of 0xA0 []) ∷ reply (reply_of 0x81 []) ∷ reply (reply_of 0x80 (1 ∷ zeros 13)) ∷ []) refl in
      (ap (heard_at 0) e, ap (heard_at 2) e)

  pub constant-reply : History written-and-read s → heard a x ≡ heard c z → ⊥
  unfolding computed
  constant-reply h e =
      let same : length (reply_of 0xA0 []) ≡ length (reply_of 0x80 (1 ∷ zeros 13)) = ap (λ (w : RuleAnswer). length (octets_in w)) (sym (read_back h).0 ∙ e ∙ (read_back h).1) in
      omega arith

  pub writes_nothing : History written-and-read s → heard c z ≡ reply (reply_of 0x80 (zeros 14)) → ⊥
  unfolding computed
  writes_nothing h e =
      let same : get_or (reply_of 0x80 (1 ∷ zeros 13)) 4 0 ≡ get_or (reply_of 0x80 (zeros 14)) 4 0 = ap (λ (w : RuleAnswer). get_or (octets_in w) 4 0) (sym (read_back h).1 ∙ e) in
      omega arith

-- ignores every sighting
pub ignores-sightings : (a : Result Answer Refusal) (o s : List ℕ) (n : ℕ) → History (deed (sighting 0 7 1) a o ∷ []) s → a ≡ Ok (Sighted (Ignored n)) → ⊥
unfolding computed concerns answers_of heard_by
ignores-sightings a o s n h e =
    let f : heard a o ≡ seen Recorded = ap (heard_at 0) (came (deed (sighting 0 7 1) a o ∷ []) s h (seen Recorded ∷ []) refl) in
    let z : ◌≡◌ {A = ℕ} 0 1 = cc in
    omega arith

-- sleeps through ticks: after one the timer is sent as 100 ms
pub sleeps-through-ticks : (a b : Result Answer Refusal) (x y s : List ℕ) → History (deed tick a x ∷ deed (ask 0x86 []) b y ∷ []) s → heard b y ≡ reply (reply_of 0x86 (zeros 4)) → ⊥
unfolding computed concerns answers_of heard_by
sleeps-through-ticks a b x y s h e =
    let f : heard b y ≡ reply (reply_of 0x86 (0 ∷ 0 ∷ 0 ∷ 100 ∷ [])) =
    ap (heard_at 1) (came (deed tick a x ∷ deed (ask 0x86 []) b y ∷ []) s h (ok ∷ reply (reply_of 0x86 (0 ∷ 0 ∷ 0 ∷ 100 ∷ [])) ∷ []) refl) in
    let same : get_or (reply_of 0x86 (0 ∷ 0 ∷ 0 ∷ 100 ∷ [])) 7 0 ≡ get_or (reply_of 0x86 (zeros 4)) 7 0 = ap (λ (w : RuleAnswer). get_or (octets_in w) 7 0) (sym f ∙ e) in
    omega arith

-- works at the first event and then pretends, and a made-up TAB-LEN: after two sightings two records are held
pub pretends-after-the-first : (a b c : Result Answer Refusal) (x y z s : List ℕ) (n : ℕ)
    → History (deed (sighting 0 7 1) a x ∷ deed (sighting 0 8 1) b y ∷ deed (ask 0x31 []) c z ∷ []) s
    → heard c z ≡ reply (reply_of 0x31 (0 ∷ 64 ∷ 0 ∷ 0 ∷ 0 ∷ n ∷ [])) → n ≡ 2
unfolding computed concerns answers_of heard_by
pretends-after-the-first a b c x y z s n h e =
    let f : heard c z ≡ reply (reply_of 0x31 (0 ∷ 64 ∷ 0 ∷ 0 ∷ 0 ∷ 2 ∷ [])) =
    ap (heard_at 2) (came (deed (sighting 0 7 1) a x ∷ deed (sighting 0 8 1) b y ∷ deed (ask 0x31 []) c z ∷ []) s h
    (seen Recorded ∷ seen Recorded ∷ reply (reply_of 0x31 (0 ∷ 64 ∷ 0 ∷ 0 ∷ 0 ∷ 2 ∷ [])) ∷ []) refl) in
    ap (λ (w : RuleAnswer). get_or (octets_in w) 9 0) (sym e ∙ f)

-- made-up counts: TAB-LEN is the number of records held, and 0x22 sends the oldest of them, counted, whatever store the box works on
module _ (kind : Kind) (d : Desk) where
  pub tab-len-is-held : (answered kind d 0x31 []).sent ≡ octets 2 share ++ octets 2 d.table.start ++ octets 2 (length d.table.held)
  unfolding answered known known_in commands obey tests first table_tests row_tests unless table_effect row_effect result sized_for
  tab-len-is-held = refl

  pub records-sent-are-held : (k : ℕ) → k < 65536 → (k ≡ 0 → ⊥) → (length d.table.held ≡ 0 → ⊥)
      → (answered kind d 0x22 (octets 2 k)).sent ≡ counted (take (goes kind k d.table) d.table.held)
  unfolding answered known known_in commands obey tests first table_tests row_tests unless table_effect row_effect result sized_for
  records-sent-are-held k small some held =
      rw (eq-eqb _ _ (octets-length 2 k), two_back k small, ne_eqb _ _ some, ne_eqb _ _ held)
