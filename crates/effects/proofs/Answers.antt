-- A command's answer from what is done to the row and told. Assumes nothing.
use Prim.Native.Nat.{ℕ}
use mathlib.Core.Path.{◌≡◌, refl, sym, ap}
use mathlib.Core.List.{List, []}
use lib.ListN.{length}
use Rattle.octets.specs.Parts.{put}
use Rattle.frame.specs.declared.Kind.{Kind}
use Rattle.frame.specs.declared.Way.{Way}
use Rattle.frame.specs.Shape.{data_at}
use Rattle.rules.specs.Desk.{Desk}
use Rattle.rules.specs.Command.{Result, result, done}
use Rattle.store.specs.View.{desk_in}
use Rattle.rows.specs.Change.{Change}
use Rattle.rows.proofs.Changes.{change-as}
use Rattle.effects.specs.declared.Reply.{Reply}
use Rattle.effects.specs.Obeyed.{RowObeyed, RowQuiet}

module _ {answer : Desk → Result} {f : Desk → Desk} {row row' : List ℕ} {r : Reply} where
  -- f is done to the desk, and the data are told
  pub obeyed : {kind : Kind} {out out' : List ℕ} (status : ℕ) (sent : List ℕ) → Change f row row'
      → ((rs : List (List ℕ)) → answer (desk_in row rs) ≡ result status sent (f (desk_in row rs)))
      → r ≡ record { status = status; len = length sent } → out' ≡ put (data_at Way.Reply kind) sent out → RowObeyed kind answer r row row' out out'
  unfolding result
  obeyed status sent change e p q =
      record {
        told = λ rs. rw (e rs, p) (record { status-is = refl; len_is = refl; out-is = q });
        change = change-as change (λ rs. ap (λ (res : Result). res.desk) (sym (e rs)));
      }

  -- a reply without data
  pub quiet : (status : ℕ) → Change f row row' → r ≡ record { status = status; len = 0 }
      → ((rs : List (List ℕ)) → answer (desk_in row rs) ≡ result status [] (f (desk_in row rs))) → RowQuiet answer r row row'
  unfolding put
  quiet status change p e = record { obeyed = λ kind out. obeyed status [] change e p refl }

-- and without a status
pub done-quiet : {f : Desk → Desk} {row row' : List ℕ} {r : Reply} → Change f row row' → r ≡ record { status = 0; len = 0 } → RowQuiet (λ d. done (f d)) r row row'
unfolding done
done-quiet change p = quiet 0 change p (λ rs. refl)
