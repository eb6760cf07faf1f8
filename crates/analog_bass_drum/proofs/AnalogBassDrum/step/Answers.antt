-- Line by line the turn, the last call first; the excitation is the one that the caller kept.
use lib.Ieee.{round, of_bits}
use Rattle.analog_bass_drum.specs.AnalogBassDrum.{step}
use Rattle.analog_bass_drum.specs.Excitation.{excitation, fm_pulse}
use Rattle.analog_bass_drum.proofs.AnalogBassDrum.step.Goals as goal

pub returns : goal.returns
unfolding step excitation fm_pulse round of_bits
returns c = rw (c.one_pole.ensures, c.process_dual-d.ensures, c.set_f_q-tuned.ensures, c.clamp-f.ensures)
    (rw (c.diode-punch.ensures, c.fm_pulse-m.ensures, c.requires))
