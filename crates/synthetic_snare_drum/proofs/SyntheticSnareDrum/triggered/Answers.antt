-- Line by line the definition.
use lib.Ieee.{round, of_bits}
use Rattle.synthetic_snare_drum.specs.SyntheticSnareDrum.{triggered}
use Rattle.synthetic_snare_drum.proofs.SyntheticSnareDrum.triggered.Goals as goal

pub returns : goal.returns
unfolding triggered round of_bits
returns c = rw c.truncate_u32.ensures
