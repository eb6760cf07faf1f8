-- The constant is, literal by literal, the record of zeros.
use lib.Ieee.{round, of_bits, mul, to_unsigned}
use mathlib.Core.Path.{refl}
use Rattle.filter.specs.Svf as Svf
use Rattle.analog_bass_drum.specs.AnalogBassDrum.{ZERO}
use Rattle.console.proofs.bass.bechullpi_analog_bass_drum_zero.Goals as goal

pub returns : goal.returns
unfolding ZERO Svf.ZERO round of_bits mul to_unsigned
returns c = refl
