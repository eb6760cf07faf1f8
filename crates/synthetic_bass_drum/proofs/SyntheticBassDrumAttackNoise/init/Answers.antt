-- The constant is, literal by literal, the record of zeros.
use lib.Ieee.{round, of_bits}
use mathlib.Core.Path.{refl}
use Rattle.synthetic_bass_drum.proofs.SyntheticBassDrumAttackNoise.init.Goals as goal

pub returns : goal.returns
unfolding round of_bits
returns c = refl
