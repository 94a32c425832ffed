-- What a row tells of its desk: password, timer, blocks. Assumes nothing.
use Prim.Native.Nat.{ℕ, ◌*◌, ◌<◌}
use mathlib.Core.Path.{◌≡◌, sym, ap, ◌∙◌}
use mathlib.Core.Bool.{Bool, true, false, cond}
use mathlib.Core.List.{List}
use native.Mathlib.Omega.{arith}
use lib.Dec.{lit<, lit≤}
use lib.ListN.{length}
use Rattle.octets.specs.Parts.{part, alike}
use Rattle.octets.specs.Numbers.{Octets}
use Rattle.octets.specs.Areas.{upto}
use Rattle.octets.proofs.Alike.{alike-comm}
use Rattle.octets.proofs.Numbers.{octets-part}
use Rattle.octets.proofs.Puts.{part-part, part_length}
use Rattle.timer.specs.Clock.{timer_octets}
use Rattle.timer.proofs.ReadBack.{timer-forth}
use Rattle.rules.specs.Config.{block_size, block_count, memory_size, block_at}
use Rattle.rules.specs.Command.{password_is}
use Rattle.store.specs.Rows.{eeprom_at, timer_at, field, fields}
use Rattle.store.specs.View.{desk_of, desk_in}
use Rattle.store.proofs.Fields.{field-length}
use Rattle.store.specs.Rows.{ram_field, eeprom_field}
use Rattle.rows.specs.Change.{Fit}

module _ (row : List ℕ) where
  pub password-told : (body : List ℕ) (rs : List (List ℕ)) → length body ≡ 4 → alike (part eeprom_at (length body) row) body ≡ password_is body (desk_in row rs)
  unfolding password_is desk_of fields field upto
  password-told body rs l =
      rw l (alike-comm (part eeprom_at 4 row) body ∙ ap (alike body) (sym (part-part 0 4 eeprom_at memory_size row (lit≤ tt))))

  module _ (fit : Fit row) where
    pub timer-size : length (part timer_at 4 row) ≡ 4
    timer-size = part_length timer_at 4 row (omega (arith, fit.size))

    pub timer-told : Octets row → (rs : List (List ℕ)) → timer_octets (desk_in row rs).timer ≡ part timer_at 4 row
    unfolding desk_of fields field upto
    timer-told octet rs = timer-forth (part timer_at 4 row) timer-size (octets-part timer_at 4 row octet)

    pub block_size_lem : (loc : Bool) (k : ℕ) → k < block_count → length (block_at k (cond loc (field row eeprom_field) (field row ram_field))) ≡ block_size
    unfolding block_at
    block_size_lem true k l = part_length (block_size * k) block_size (field row eeprom_field) (omega (arith, field-length row fit.size eeprom_field (lit< tt)))
    block_size_lem false k l = part_length (block_size * k) block_size (field row ram_field) (omega (arith, field-length row fit.size ram_field (lit< tt)))
