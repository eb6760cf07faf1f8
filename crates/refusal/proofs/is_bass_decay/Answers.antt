-- `within` of the definition's bounds; the literals agree by computing.
use lib.Ieee.{round, of_bits}
use Rattle.refusal.specs.Refusal.{is_bass_decay}
use Rattle.refusal.proofs.is_bass_decay.Goals as goal

pub returns : goal.returns
unfolding is_bass_decay round of_bits
returns c = c.within.ensures
