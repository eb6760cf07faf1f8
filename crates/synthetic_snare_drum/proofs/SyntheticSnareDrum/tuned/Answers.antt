-- Line by line the definition.
use lib.Ieee.{round, of_bits}
use Rattle.synthetic_snare_drum.specs.SyntheticSnareDrum.{tuned}
use Rattle.synthetic_snare_drum.proofs.SyntheticSnareDrum.tuned.Goals as goal

pub returns : goal.returns
unfolding tuned round of_bits
returns c = cc
