-- Line by line the definition.
use lib.Ieee.{round, of_bits}
use Rattle.analog_snare_drum.specs.AnalogSnareDrum.{settings}
use Rattle.analog_snare_drum.proofs.Knobs.settings.Goals as goal

pub returns : goal.returns
unfolding settings round of_bits
returns c = rw (c.gains.ensures, c.clamp.ensures, c.semitones_to_ratio-2.ensures.value)
    (rw c.semitones_to_ratio.ensures.value)
