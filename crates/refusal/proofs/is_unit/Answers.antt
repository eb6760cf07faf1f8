-- `within` of the definition's bounds; the literals agree by computing.
use lib.Ieee.{round, of_bits}
use Rattle.refusal.specs.Refusal.{is_unit}
use Rattle.refusal.proofs.is_unit.Goals as goal

pub returns : goal.returns
unfolding is_unit round of_bits
returns c = c.within.ensures
