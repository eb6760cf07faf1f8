-- The constant is, literal by literal, the record of zeros.
use lib.Ieee.{round, of_bits}
use mathlib.Core.Path.{refl}
use Rattle.console.proofs.synthetic_bass.bechullpi_synthetic_bass_drum_attack_noise_zero.Goals as goal

pub returns : goal.returns
unfolding round of_bits
returns c = refl
