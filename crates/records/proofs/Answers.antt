-- A command's answer from its status, its data and what the store then says. Assumes nothing.
use Prim.Native.Nat.{ℕ, ◌<◌}
use mathlib.Core.Path.{◌≡◌, refl}
use mathlib.Core.Bool.{true}
use mathlib.Core.List.{List, []}
use lib.ListN.{length}
use Rattle.octets.specs.Parts.{put}
use Rattle.frame.specs.declared.Kind.{Kind}
use Rattle.frame.specs.declared.Way.TheVariants.{Reply as ReplyWay}
use Rattle.frame.specs.Shape.{data_at}
use Rattle.table.specs.Entries.{desks}
use Rattle.rules.specs.Desk.{Desk}
use Rattle.rules.specs.Command.{Result, result}
use Rattle.store.specs.Sound.{sound}
use Rattle.keeping.specs.Kept.{kept, Says}
use Rattle.keeping.proofs.Rows.{unchanged}
use Rattle.effects.specs.declared.Reply.{Reply}
use Rattle.effects.specs.Obeyed.{Carries}
use Rattle.records.specs.Obeyed.{Obeyed}

-- data that stand at their place
pub told-as : (kind : Kind) (res : Result) (status : ℕ) (sent : List ℕ) (desk' : Desk) (r : Reply) (out out' : List ℕ) → res ≡ result status sent desk'
    → r ≡ record { status = status; len = length sent } → out' ≡ put (data_at ReplyWay kind) sent out → Carries kind res r out out'
unfolding result
told-as kind res status sent desk' r out out' q p o = rw (q, p) (record { status-is = refl; len_is = refl; out-is = o })

pub obeyed-as : (d : ℕ) (kind : Kind) (res : Result) (status : ℕ) (sent : List ℕ) (desk' : Desk) (r : Reply) (s s' out out' : List ℕ) → res ≡ result status sent desk'
    → r ≡ record { status = status; len = length sent } → out' ≡ put (data_at ReplyWay kind) sent out → Says d desk' s s' → Obeyed d kind res r s s' out out'
unfolding result
obeyed-as d kind res status sent desk' r s s' out out' q p o says =
    record { told = told-as kind res status sent desk' r out out' q p o; says = rw q says }

module _ (s : List ℕ) (e : sound s ≡ true) (d : ℕ) (h : d < desks) where
  -- a status without data, and nothing changed
  pub plain-obeyed : (kind : Kind) (res : Result) (status : ℕ) (r : Reply) (out : List ℕ) → res ≡ result status [] (kept d s) → r ≡ record { status = status; len = 0 }
      → Obeyed d kind res r s s out out
  unfolding put
  plain-obeyed kind res status r out q p = obeyed-as d kind res status [] (kept d s) r s s out out q p refl (unchanged s e d h)
