-- The line that state and buffer say, as code finds it out; and a text that is held whole. Assumes nothing.
use Prim.Native.Nat.{ℕ, ◌≤◌}
use mathlib.Core.Path.{◌≡◌, ◌∙◌}
use mathlib.Core.Bool.{true, false}
use mathlib.Core.List.{List}
use lib.ListN.{length, take}
use lib.Seq.{take_all}
use Rattle.feeding.specs.declared.Begun.{Begun}
use Rattle.digits.specs.Digits.{octets_of}
use Rattle.text.specs.Listing.{frame, not_read, other_line}
use Rattle.feeding.specs.Feeding.{Fed, read_off}

module _ (at : Begun) (held : List ℕ) where
  module _ (bad : at.bad ≡ true) where
    pub reads-long : at.over ≡ true → read_off at held ≡ not_read
    unfolding read_off
    reads-long e = rw (bad, e)

    pub reads_other : at.over ≡ false → read_off at held ≡ other_line (take at.held held)
    unfolding read_off
    reads_other e = rw (bad, e)

  module _ (good : at.bad ≡ false) where
    pub reads-odd : at.odd ≡ true → read_off at held ≡ not_read
    unfolding read_off
    reads-odd e = rw (good, e)

    pub reads-frame : at.odd ≡ false → read_off at held ≡ frame (octets_of (take at.held held))
    unfolding read_off
    reads-frame e = rw (good, e)

  -- the whole text is held
  pub all_held : (text : List ℕ) → Fed text at held → length text ≤ length held → take at.held held ≡ text
  all_held text f h = f.held-is ∙ take_all (length held) text h
