-- `depot_c::depot_test` meets its contract. Assumes nothing.
use Rattle.depot_c.proofs.Fits.{test_fits}
use Rattle.depot_c.proofs.depot_test.Goals as goal

pub answer_code-requires : goal.answer_code-requires
answer_code-requires c = test_fits _ _ c.test.ensures
