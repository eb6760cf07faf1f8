-- Line by line the definition.
use mathlib.Core.Path.{refl}
use lib.Ieee.{round, of_bits}
use Rattle.analog_snare_drum.specs.AnalogSnareDrum.{triggered}
use Rattle.analog_snare_drum.proofs.AnalogSnareDrum.triggered.Goals as goal

pub returns : goal.returns
unfolding triggered round of_bits
returns c = refl
