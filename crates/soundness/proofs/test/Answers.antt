-- `soundness::test` meets its contract: each way rewrites the definition by the tests that led there. Assumes nothing.
use borrow.Author.Tests.{eq-eqb, ne_eqb}
use Rattle.store.specs.Sound.{sound}
use borrow.Author.Rules.{rules}
use Rattle.std.proofs.Common.{sym, ◌∙◌}
use Rattle.soundness.proofs.test.Goals as goal

pub returns-then-s-ne-SIZE : goal.returns-then-s-ne-SIZE
unfolding sound
returns-then-s-ne-SIZE c = rw (ne_eqb _ _ c.if-s-ne-SIZE.true)

pub contents_sound-requires : goal.contents_sound-requires
contents_sound-requires c = (search rules, sym c.header_fine.ensures ∙ c.if-header_fine.true)

pub returns-else-header_fine : goal.returns-else-header_fine
unfolding sound
returns-else-header_fine c = rw (eq-eqb _ _ c.if-s-ne-SIZE.false, sym c.header_fine.ensures ∙ c.if-header_fine.false) c.if-header_fine.false

pub returns-then-header_fine : goal.returns-then-header_fine
unfolding sound
returns-then-header_fine c =
    rw (eq-eqb _ _ c.if-s-ne-SIZE.false, sym c.header_fine.ensures ∙ c.if-header_fine.true) c.contents_sound.ensures
