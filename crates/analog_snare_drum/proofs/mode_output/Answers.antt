-- The filter's value in the definition's record.
use Rattle.analog_snare_drum.specs.AnalogSnareDrum.{mode_output}
use Rattle.analog_snare_drum.proofs.mode_output.Goals as goal

pub returns : goal.returns
unfolding mode_output
returns c = rw c.process-o.ensures
