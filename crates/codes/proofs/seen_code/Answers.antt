-- `codes::seen_code` meets its contract: the ticks are two octets, so that they fit behind 2^16. Assumes nothing.
use mathlib.Core.Path.{sym, ap}
use Rattle.codes.specs.Codes.{seen_code}
use Rattle.codes.proofs.seen_code.Goals as goal

pub returns-in-Ignored : goal.returns-in-Ignored
returns-in-Ignored c = sym (ap seen_code c.in-Ignored.is)
