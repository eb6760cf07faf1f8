-- `within` of the definition's bounds; the literals agree by computing.
use lib.Ieee.{round, of_bits}
use Rattle.refusal.specs.Refusal.{is_sample_rate}
use Rattle.refusal.proofs.is_sample_rate.Goals as goal

pub returns : goal.returns
unfolding is_sample_rate round of_bits
returns c = c.within.ensures
