-- Line by line the turn, the last call first.
use lib.Ieee.{round, of_bits}
use Rattle.analog_bass_drum.specs.AnalogBassDrum.{step}
use Rattle.analog_bass_drum.specs.Excitation.{excitation, fm_pulse}
use Rattle.analog_bass_drum.proofs.AnalogBassDrum.excitation.Goals as goal

pub returns : goal.returns
unfolding excitation fm_pulse step round of_bits
returns c = rw (c.one_pole-fm_pulse_lp.ensures, c.fm_pulse-m.ensures, c.diode-rectified.ensures, c.one_pole-pulse_lp.ensures)
    (rw c.next-p.ensures)
