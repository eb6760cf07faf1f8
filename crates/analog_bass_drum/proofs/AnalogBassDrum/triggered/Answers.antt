-- Line by line the definition.
use mathlib.Core.Path.{refl}
use lib.Ieee.{round, of_bits}
use Rattle.analog_bass_drum.specs.AnalogBassDrum.{triggered}
use Rattle.analog_bass_drum.proofs.AnalogBassDrum.triggered.Goals as goal

pub returns : goal.returns
unfolding triggered round of_bits
returns c = refl
