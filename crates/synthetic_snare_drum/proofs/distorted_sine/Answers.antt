-- Line by line the definition.
use lib.Ieee.{round, of_bits}
use Rattle.synthetic_snare_drum.specs.SyntheticSnareDrum.{distorted_sine}
use Rattle.synthetic_snare_drum.proofs.distorted_sine.Goals as goal

pub returns : goal.returns
unfolding distorted_sine round of_bits
returns c = rw (c.one_plus_abs.ensures, c.folded.ensures)
