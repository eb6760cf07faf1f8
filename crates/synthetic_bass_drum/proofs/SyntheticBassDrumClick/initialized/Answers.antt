-- Line by line the definition.
use lib.Ieee.{round, of_bits}
use Rattle.synthetic_bass_drum.specs.Click.{initialized}
use Rattle.synthetic_bass_drum.proofs.SyntheticBassDrumClick.initialized.Goals as goal

pub returns : goal.returns
unfolding initialized round of_bits
returns c = cc
