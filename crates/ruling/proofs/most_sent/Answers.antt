-- `ruling::most_sent` meets its contract: by the numbers of each kind. Assumes nothing.
use Prim.Native.Nat.{◌-◌, ◌/◌, ◌≤◌}
use mathlib.Core.Path.{◌≡◌, refl}
use lib.Dec.{lit≤}
use Rattle.table.specs.Entries.{record_width, share}
use Rattle.frame.specs.declared.Kind.{Kind}
use Rattle.frame.specs.declared.Kind.TheVariants.{Standard, Advanced}
use Rattle.frame.specs.declared.Way.TheVariants.{Request}
use Rattle.frame.specs.Shape.{shape_of, overhead}
use Rattle.rules.specs.Records.{most_sent}
use Rattle.ruling.proofs.most_sent.Goals as goal

-- what a reply has beside its records
record Room (kind : Kind) : Type 0 where
  over : overhead Request kind ≤ (shape_of kind).longest
  more : 3 ≤ (shape_of kind).longest - overhead Request kind
  same : ((shape_of kind).longest - overhead Request kind - 3) / record_width ≡ most_sent kind
  few : ((shape_of kind).longest - overhead Request kind - 3) / record_width ≤ share

room : (kind : Kind) → Room kind
unfolding most_sent
room Standard = record { over = lit≤ tt; more = lit≤ tt; same = refl; few = lit≤ tt }
room Advanced = record { over = lit≤ tt; more = lit≤ tt; same = refl; few = lit≤ tt }

pub overflow_sub-result : goal.overflow_sub-result
overflow_sub-result c = rw (c.longest.ensures, c.overhead.ensures) (room c.args.kind).over

pub overflow_sub-result-2 : goal.overflow_sub-result-2
overflow_sub-result-2 c = rw (c.longest.ensures, c.overhead.ensures) (room c.args.kind).more

pub returns : goal.returns
returns c =
    let r = room c.args.kind in
    rw (c.longest.ensures, c.overhead.ensures) (r.same, r.few)
