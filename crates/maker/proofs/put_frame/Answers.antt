-- `maker::put_frame` meets its contract: the data are put where the frame of its kind has them, and it is sealed. Assumes nothing.
use Prim.Native.Nat.{◌+◌, ◌≤◌}
use mathlib.Core.Path.{◌≡◌, ap, ◌∙◌}
use mathlib.Core.Bool.{not}
use native.Mathlib.Omega.{arith}
use lib.ListN.{length, length-take, length-drop}
use Rattle.octets.proofs.Tests.{and_left}
use Rattle.frame.specs.declared.Frame.{Frame}
use Rattle.frame.specs.declared.Way.TheVariants.{Request}
use Rattle.frame.specs.Shape.{data_at}
use Rattle.requests.specs.Request.{fields_hold, denied, in_range}
use Rattle.maker.proofs.Making.{framed, data-room}
use Rattle.maker.proofs.put_frame.Goals as goal
use Rattle.maker.proofs.put_frame.Goals.{After-frame_of-f}

-- where the data begin
start : (c : After-frame_of-f) → c.frame_of-f.result.start ≡ data_at Request c.args.q.kind
start c = ap (λ (f : Frame). f.start) c.frame_of-f.ensures

-- the room that the head leaves
roomy : (c : After-frame_of-f) → c.frame_of-f.result.start + c.args.len + 2 ≤ length c.args.out.now
roomy c = data-room c.args.q.kind c.args.len (length c.args.out.now) c.frame_of-f.result.start c.requires.4 (start c)

pub put_data-requires : goal.put_data-requires
unfolding in_range
put_data-requires c =
    (and_left (fields_hold c.args.q.ask) (not (denied c.args.q)) c.requires.1, simp (length-take, length-drop) (omega (arith, roomy (goal.at.put_data-requires c).After-frame_of-f, c.requires.2)))

pub returns : goal.returns
returns c =
    let s = c.put_data.new.out in
    framed c.args.q c.args.out.now s c.frame_of-f.result.start c.args.len c.args.control c.requires.0 c.requires.1 c.requires.2 c.requires.4
    (start (goal.at.returns c).After-frame_of-f) c.requires.3 c.put_data.ensures _ _ _ (c.seal_request.ensures.value ∙ rw c.frame_of-f.ensures)
    c.ok_or.ensures.value (c.seal_request.ensures.out_after ∙ rw c.frame_of-f.ensures)

pub slice_bounds-put_data-count : goal.slice_bounds-put_data-count
slice_bounds-put_data-count c = omega (arith, roomy (goal.at.slice_bounds-put_data-count c).After-frame_of-f)

pub slice_bounds-put_data-start : goal.slice_bounds-put_data-start
slice_bounds-put_data-start c = omega (arith, roomy (goal.at.slice_bounds-put_data-start c).After-frame_of-f)
