-- Line by line the definition, the last call first.
use lib.Ieee.{round, of_bits}
use Rattle.analog_snare_drum.specs.Excitation.{excitation}
use Rattle.analog_snare_drum.proofs.AnalogSnareDrum.excitation.Goals as goal

pub returns : goal.returns
unfolding excitation round of_bits
returns c = rw (c.one_pole-pulse_lp.ensures, c.next-p.ensures, c.nearest_f32-decay_time.ensures)
