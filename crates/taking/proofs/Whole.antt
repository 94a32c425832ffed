-- In any grouping of an input into parts, all that is printed is what the input prints. Assumes nothing.
use Rattle.std.specs.Prelude.{Ok}
use Prim.Native.Nat.{ℕ}
use mathlib.Core.Path.{◌≡◌, sym, ap, ◌∙◌}
use mathlib.Core.Bool.{true}
use mathlib.Core.List.{List, [], ◌∷◌, ◌++◌, append_assoc, append-nil}
use native.Mathlib.Omega.{arith}
use borrow.Author.Tests.{eq-eqb, ne_eqb}
use lib.ListN.{length, take}
use Rattle.octets.specs.Parts.{part}
use Rattle.octets.proofs.Puts.{part-put-same}
use Rattle.frame.specs.Shape.{reply_room}
use Rattle.rules.specs.Box.{Box}
use Rattle.store.specs.View.{view}
use Rattle.store.specs.Sound.{sound}
use Rattle.events.specs.declared.Answer.TheVariants.{Done}
use Rattle.depot.specs.Called.{Made}
use Rattle.depot.proofs.Steps.{fresh-left}
use Rattle.text.specs.Listing.{line_of}
use Rattle.text.specs.Whole.{last_line, lines_from, said, printed_from, listing}
use Rattle.feeding.specs.declared.Begun.{Begun}
use Rattle.feeding.specs.Feeding.{Fed, Starts, held_room}
use Rattle.readoff.specs.ReadOff.{ReadOff}
use Rattle.answering.proofs.Meaning.{Means, answered-means}
use Rattle.turning.specs.Turning.{State, Ends}
use Rattle.taking.specs.Taking.{Sized, Finished}
use Rattle.taking.specs.Listed.{waits, Listening, anew, Turn, Ran, heard, sent, Listed}
use Rattle.turning.proofs.Turns.{answer-short}
use Rattle.taking.proofs.Listens.{part-listens}

-- ---- calls one after the other

-- the output is printed, and another lent
emptied : (input printed : List ℕ) (a : State) (out : List ℕ) → Listening input printed a → Listening input (printed ++ waits a) (anew a out)
emptied input printed a out so =
    record {
      text = so.text;
      fed = so.fed;
      still = so.still;
      onward = λ more. so.onward more ∙ ap (λ (l : List ℕ). l ++ printed_from (view a.store) (lines_from so.text more)) (sym (append-nil (printed ++ waits a)));
      held-size = so.held-size;
      reply-size = so.reply-size;
    }

abbrev Ready : List ℕ → List ℕ → State → Type 0
Ready input printed a = (out : List ℕ) → Listening input printed (anew a out)

ran-listens : (ts : List Turn) (input printed : List ℕ) (a b : State) → Ready input printed a → Ran a ts b → Ready (input ++ heard ts) (printed ++ sent ts) b
unfolding Ran heard sent
ran-listens [] input printed a b so q out = rw (append-nil input, append-nil printed, q) (so out)
ran-listens (t ∷ ts) input printed a b so (one, rest) out =
    let on : Listening (input ++ take t.taken t.part) printed t.after = part-listens t.part input printed (anew a t.out) t.taken t.after one.took (so t.out) in
    let end = ran-listens ts (input ++ take t.taken t.part) (printed ++ waits t.after) t.after b (λ o. emptied _ _ t.after o on) rest out in
    rw (← append_assoc input (take t.taken t.part) (heard ts), ← append_assoc printed (waits t.after) (sent ts)) end

-- ---- the end

module _ (line : Begun) (held s reply out : List ℕ) (n : ℕ) (s' reply' out' : List ℕ) (sized : Sized held reply out) (q : sound s ≡ true) where
  -- what the last line prints, if there is one
  last-prints : (text : List ℕ) → Fed text line held → Ends line held s reply out n s' reply' out' → take n out' ≡ printed_from (view s) (last_line text)
  unfolding Ends last_line printed_from part
  last-prints [] f e =
      let none = rw (eq-eqb line.held 0 (omega (arith, f.count-is))) at e in
      ap (λ (k : ℕ). take k out') none.0
  last-prints (x ∷ xs) f e =
      let one : ReadOff line held s reply out n s' reply' out' = rw (ne_eqb line.held 0 (λ z. omega (arith, f.count-is, sized.held-size))) at e in
      let d = said (view s) (line_of (x ∷ xs)) in
      let m : Means d reply out n s' reply' out' =
      answered-means s reply out n s' reply' out' q (line_of (x ∷ xs)) sized.reply-size (one.whole (x ∷ xs) f (omega (arith, sized.held-size))) in
      let short = answer-short line 0 held s reply out n s' reply' out' out one in
      rw (m.prints.count-is, m.prints.output-is) (part-put-same 0 d.text out (omega (arith, short, m.prints.count-is, sized.out-size)) ∙ sym (append-nil d.text))

module _ (input printed : List ℕ) (a : State) (so : Ready input printed a) where
  finishes : (out : List ℕ) (n : ℕ) (s' reply' out' : List ℕ) → Finished a.line a.held a.store a.reply out n s' reply' out' → printed ++ take n out' ≡ listing input
  unfolding lines_from
  finishes out n s' reply' out' f =
      let l = so out in
      sym
      (ap listing (sym (append-nil input))
      ∙ l.onward []
      ∙ ap (λ (x : List ℕ). x ++ printed_from (view a.store) (last_line l.text)) (append-nil printed)
      ∙ ap (λ (x : List ℕ). printed ++ x) (sym (last-prints a.line a.held a.store a.reply out n s' reply' out' f.sized l.still l.text l.fed f.ends)))

-- ---- the start, and the whole

-- the sizes of the buffers, which every call says
first-sized : (ts : List Turn) (a b : State) (out : List ℕ) → Ran a ts b → Sized b.held b.reply out → (length a.held ≡ held_room) × (length a.reply ≡ reply_room)
unfolding Ran
first-sized [] a b out q s = rw (← q) (s.held-size, s.reply-size)
first-sized (t ∷ ts) a b out (one, rest) s = (one.sized.held-size, one.sized.reply-size)

started : (a : State) (buffer : List ℕ) → Made buffer (Ok Done) a.store → Starts a.line → (length a.held ≡ held_room) × (length a.reply ≡ reply_room) → Ready [] [] a
unfolding listing
started a buffer made starts sizes out =
    let l = fresh-left buffer a.store made in
    record {
      text = [];
      fed = starts.fed a.held;
      still = l.still;
      onward = λ more. ap (λ (b : Box). printed_from b (lines_from [] more)) (sym l.says);
      held-size = sizes.0;
      reply-size = sizes.1;
    }

-- however an input came in parts, what is printed is what it prints
pub prints-the-listing : (input printed : List ℕ) → Listed input printed → printed ≡ listing input
prints-the-listing input printed h =
    let sizes = first-sized h.turns h.first h.last h.out h.ran h.finished.sized in
    let so = started h.first h.buffer h.made h.starts sizes in
    let all : Ready (heard h.turns) (sent h.turns) h.last = ran-listens h.turns [] [] h.first h.last so h.ran in
    h.printed-is
    ∙ finishes (heard h.turns) (sent h.turns) h.last all h.out h.count h.store' h.reply' h.out' h.finished
    ∙ ap listing (sym h.input-is)

-- so two groupings of one input print the same
pub any-grouping : (input printed printed'' : List ℕ) → Listed input printed → Listed input printed'' → printed ≡ printed''
any-grouping input printed printed'' p q = prints-the-listing input printed p ∙ sym (prints-the-listing input printed'' q)
