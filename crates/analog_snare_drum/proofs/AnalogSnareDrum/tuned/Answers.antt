-- The calls' values in the definition's record.
use lib.Ieee.{round, of_bits}
use Rattle.analog_snare_drum.specs.AnalogSnareDrum.{tuned}
use Rattle.analog_snare_drum.proofs.AnalogSnareDrum.tuned.Goals as goal

pub returns : goal.returns
unfolding tuned round of_bits
returns c = rw (c.set_f_q-noise_filter.ensures, c.clamp-f_noise.ensures, c.tuned_modes-resonator.ensures)
