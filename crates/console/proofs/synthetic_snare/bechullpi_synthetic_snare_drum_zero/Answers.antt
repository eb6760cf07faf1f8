-- The constant is, literal by literal, the record of zeros.
use lib.Ieee.{round, of_bits}
use mathlib.Core.Path.{refl}
use Rattle.filter.specs.Svf as Svf
use Rattle.filter.specs.OnePole as OnePole
use Rattle.synthetic_snare_drum.specs.SyntheticSnareDrum.{ZERO}
use Rattle.console.proofs.synthetic_snare.bechullpi_synthetic_snare_drum_zero.Goals as goal

pub returns : goal.returns
unfolding ZERO Svf.ZERO OnePole.ZERO round of_bits
returns c = refl
