-- The constant is, literal by literal, the record of zeros.
use lib.Ieee.{round, of_bits}
use mathlib.Core.Path.{refl}
use Rattle.filter.specs.Svf as Svf
use Rattle.analog_snare_drum.specs.AnalogSnareDrum.{ZERO}
use Rattle.console.proofs.snare.bechullpi_analog_snare_drum_zero.Goals as goal

pub returns : goal.returns
unfolding ZERO Svf.ZERO round of_bits
returns c = refl
