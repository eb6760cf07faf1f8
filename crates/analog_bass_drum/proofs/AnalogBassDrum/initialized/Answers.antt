-- The calls' values in the definition's record.
use lib.Ieee.{round, of_bits}
use Rattle.analog_bass_drum.specs.AnalogBassDrum.{initialized}
use Rattle.analog_bass_drum.proofs.AnalogBassDrum.initialized.Goals as goal

pub returns : goal.returns
unfolding initialized round of_bits
returns c = cc
