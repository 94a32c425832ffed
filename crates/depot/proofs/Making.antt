-- A fresh store is made, or refused, by the size of the buffer alone. Assumes nothing.
use Rattle.std.specs.Prelude.{ℕ, ◌≡◌, ◌≢◌, List, length, Ok, Err}
use mathlib.Core.Path.{refl}
use borrow.Author.Tests.{eq-eqb, ne_eqb}
use Rattle.octets.specs.Tests.{first}
use Rattle.frame.specs.declared.Refusal.TheVariants.{Unsound}
use Rattle.frame.proofs.Numbers.{refuses}
use Rattle.store.specs.Layout.{store_size}
use Rattle.fresh.specs.Fresh.{fresh_store}
use Rattle.events.specs.declared.Answer.TheVariants.{Done}
use Rattle.depot.specs.Called.{fresh_refusals, Made}

pub refused_by_size : (s : List ℕ) → length s ≢ store_size → Made s (Err Unsound) s
unfolding first fresh_refusals
refused_by_size s h = record { made = rw (ne_eqb (length s) store_size h) (refuses Err Unsound, refl) }

pub made_by_size : (s s' : List ℕ) → length s ≡ store_size → s' ≡ fresh_store → Made s (Ok Done) s'
unfolding first fresh_refusals
made_by_size s s' h e = record { made = rw (eq-eqb (length s) store_size h) (refl, e) }
