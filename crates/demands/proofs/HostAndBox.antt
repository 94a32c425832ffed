-- Host and box read each other (demand 2's last sentence), and the reader refuses exactly what no sound store makes the box answer.
-- Assumes nothing.
use Rattle.std.specs.Prelude.{Ok, Result}
use Prim.Native.Nat.{ℕ, ◌≤◌, ◌<◌}
use mathlib.Core.Path.{◌≡◌, refl, sym, ap, ◌∙◌}
use mathlib.Core.Bool.{true, not}
use mathlib.Core.List.{List}
use mathlib.Core.Option.{none}
use native.Mathlib.Omega.{arith}
use lib.ListN.{length, take, set, length-set}
use lib.Seq.{take_at, get_or-set_same}
use borrow.Author.Tests.{ltb-false, not-true, not-false, leb-false}
use Rattle.table.specs.Entries.{desks}
use Rattle.rules.specs.Config.{block_size}
use Rattle.frame.specs.declared.Refusal.{Refusal}
use Rattle.frame.specs.Shape.{reply_room}
use Rattle.octets.specs.Tests.{first}
use Rattle.octets.proofs.Tests.{and_left, none-head, none_tail}
use Rattle.octets.specs.Parts.{put}
use Rattle.octets.proofs.Each.{all_set}
use Rattle.octets.proofs.Puts.{put_front}
use Rattle.rules.specs.Desk.{Desk, fresh_desk}
use Rattle.rules.specs.Box.{Box, fresh_box, desk_at, frame, reply, placed}
use Rattle.rules.specs.Legal.{box_legal}
use Rattle.rules.proofs.Facts.{DeskLegal, desk-facts, box-test}
use Rattle.rules.proofs.Legality.{fresh-facts}
use Rattle.rules.proofs.Output.{wrote-octets}
use Rattle.store.specs.Sound.{sound}
use Rattle.store.specs.View.{view}
use Rattle.views.proofs.LegalView.{desk-of-view}
use Rattle.views.proofs.EveryBox.{Said, every-box}
use Rattle.events.specs.declared.Answer.{Answer}
use Rattle.events.specs.Happened.{Ended}
use Rattle.depot.specs.Called.{Called, step_on}
use Rattle.depot.proofs.Short.{answer-brief}
use Rattle.requests.specs.declared.Request.{Request}
use Rattle.requests.specs.Request.{control_of, data_for, fields_hold, denied, in_range, request_frame}
use Rattle.maker.specs.Maker.{maker_refusals, Requested}
use Rattle.requests.proofs.BoxReads.{box-steps}
use Rattle.possible.specs.Possible.{possible}
use Rattle.possible.proofs.Answers.{answer-possible}
use Rattle.possible.proofs.Given.{Given, possible-given}
use Rattle.reader.proofs.ReadBack.{reply-read}
use Rattle.demands.specs.Exchange.{Carriable, ruled_by, reply_to, taken, ReadBack, Gives}

module _ (q : Request) (c : Carriable q) (s : List ℕ) (still : sound s ≡ true) where
  legal : DeskLegal (desk_at (view s) q.desk)
  legal = desk-of-view s q.desk still

  -- every answer of a sound store is a possible one
  pub only-possible : possible q (ruled_by q s).status (length (ruled_by q s).sent) ≡ true
  only-possible = answer-possible q (desk_at (view s) q.desk) legal c.bytes c.desk c.fields

  short : length (reply_to q s) ≤ reply_room
  short = answer-brief q.kind q.desk (control_of q.ask) (desk_at (view s) q.desk) (data_for q) legal

  module _ (out : List ℕ) (room : reply_room ≤ length out) where
    steps : (step_on s (frame (request_frame q) (length out))).answer ≡ reply (reply_to q s)
    unfolding step_on placed
    steps = rw (still, box-steps q c.bytes (view s) (length out) c.desk room)

    next : (step_on s (frame (request_frame q) (length out))).box ≡ set (view s) q.desk (ruled_by q s).desk
    unfolding step_on placed
    next = rw (still, box-steps q c.bytes (view s) (length out) c.desk room)

    front : (out' : List ℕ) → out' ≡ put 0 (reply_to q s) out → taken q s out' ≡ reply_to q s
    front out' e =
        ap (take (length (reply_to q s))) (e ∙ put_front (reply_to q s) out (omega (arith, short)))
        ∙ take_at (reply_to q s) _ (length (reply_to q s)) refl

    -- what the maker made is answered, and the reply in the output is read back as it was sent
    pub host-hears : (a : Result Answer Refusal) (s' out' : List ℕ) → Called (frame (request_frame q) (length out)) s out a s' out' → ReadBack q s a s' out'
    host-hears a s' out' called =
        let e : Ended (reply (reply_to q s)) (step_on s (frame (request_frame q) (length out))).box s out a s' out' = rw steps at called.ended in
        let there = front out' e.1 in
        let back = reply-read q (desk_at (view s) q.desk) legal c.bytes c.desk c.fields in
        record {
          answer-is = e.0;
          there = there;
          read_is = rw there back.0;
          data_is = rw there back.1;
          still = e.2.still;
          says = e.2.says ∙ next;
        }

-- ---- what the maker made is the request's frame, and one that a box answers

module _ (q : Request) (buf : List ℕ) (n : ℕ) (buf' : List ℕ) (made : Requested q buf (Ok n) buf') where
  was-written : (first (maker_refusals q (length buf)) ≡ none) × (n ≡ length (request_frame q)) × (buf' ≡ put 0 (request_frame q) buf)
  was-written = wrote-octets (first (maker_refusals q (length buf))) (request_frame q) buf n buf' made

  pub made-frame : take n buf' ≡ request_frame q
  unfolding maker_refusals
  made-frame =
      let room = ltb-false (length buf) (length (request_frame q)) (none-head _ _ _ (none_tail _ _ _ (none_tail _ _ _ was-written.0))) in
      ap (take n) (was-written.2 ∙ put_front (request_frame q) buf room) ∙ take_at (request_frame q) _ n (sym was-written.1)

  pub made-carriable : length q.bytes ≡ block_size → Carriable q
  unfolding maker_refusals in_range
  made-carriable size =
      record {
        bytes = size;
        desk = leb-false desks q.desk (none-head _ _ _ was-written.0);
        fields = and_left (fields_hold q.ask) (not (denied q)) (not-false (in_range q) (none-head _ _ _ (none_tail _ _ _ was-written.0)));
      }

possible-desk : (q : Request) (status len : ℕ) → possible q status len ≡ true → q.desk < desks
unfolding possible
possible-desk q status len e = leb-false desks q.desk (not-true _ (and_left _ _ (and_left _ _ e)))

-- ---- and for every possible answer there is a sound store that gives it

module _ (n : ℕ) (low : n < desks) (d : Desk) (legal : DeskLegal d) where
  abbrev box_with : Box
  box_with = set fresh_box n d

  with-legal : box_legal box_with ≡ true
  with-legal = box-test box_with (record { size = length-set fresh_box n d ∙ fresh-facts.size; each = all_set DeskLegal fresh_box n d fresh-facts.each legal })

  with-desk : desk_at box_with n ≡ d
  unfolding desk_at
  with-desk = get_or-set_same fresh_box n d fresh_desk (omega (arith, fresh-facts.size))

pub some-store : (q : Request) (status len : ℕ) → length q.bytes ≡ block_size → possible q status len ≡ true → Gives q status len
some-store q status len size may =
    let g : Given q status len = possible-given q status len size may in
    let low = possible-desk q status len may in
    let fine = desk-facts g.desk g.legal in
    let said : Said (set fresh_box q.desk g.desk) = every-box (set fresh_box q.desk g.desk) (with-legal q.desk low g.desk fine) in
    let there : desk_at (view said.store) q.desk ≡ g.desk = ap (λ (b : Box). desk_at b q.desk) said.says ∙ with-desk q.desk low g.desk fine in
    record { store = said.store; octets = said.octets; still = said.still; status-is = rw there g.status-is; len_is = rw there g.len_is }
