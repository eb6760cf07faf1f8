-- Line by line the turn, the last call first; the excitation is the one that the caller kept.
use lib.Ieee.{round, of_bits}
use Rattle.analog_snare_drum.specs.AnalogSnareDrum.{step}
use Rattle.analog_snare_drum.specs.Excitation.{excitation}
use Rattle.analog_snare_drum.proofs.AnalogSnareDrum.step.Goals as goal

pub returns : goal.returns
unfolding step excitation round of_bits
returns c = rw (c.process-filtered.ensures, c.not_negative-drawn.ensures, c.get_float-draw.ensures)
    (rw (c.shell_output-shell.ensures, c.requires))
