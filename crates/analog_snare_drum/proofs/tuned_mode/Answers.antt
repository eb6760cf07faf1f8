-- Line by line the definition.
use lib.Ieee.{round, of_bits}
use Rattle.analog_snare_drum.specs.AnalogSnareDrum.{tuned_mode}
use Rattle.analog_snare_drum.proofs.tuned_mode.Goals as goal

pub returns : goal.returns
unfolding tuned_mode round of_bits
returns c = rw (c.set_f_q.ensures, c.minimum_number-f.ensures.value)
