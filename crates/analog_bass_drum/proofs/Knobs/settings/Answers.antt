-- Line by line the definition.
use lib.Ieee.{round, of_bits}
use Rattle.analog_bass_drum.specs.AnalogBassDrum.{settings}
use Rattle.analog_bass_drum.proofs.Knobs.settings.Goals as goal

pub returns : goal.returns
unfolding settings round of_bits
returns c = cc
