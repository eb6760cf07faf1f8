-- The record of zeros is the definition's, by computing.
use Rattle.std.proofs.Common.{◌∙◌}
use lib.Ieee.{round, of_bits, mul, to_unsigned}
use Rattle.filter.specs.Svf as Svf
use Rattle.analog_bass_drum.specs.AnalogBassDrum as AnalogBassDrum
use Rattle.cue_render.proofs.bass.AnalogBassDrumDrum.begin.Goals as goal

pub returns : goal.returns
unfolding AnalogBassDrum.ZERO Svf.ZERO round of_bits mul to_unsigned
returns c = c.number_and_voice.ensures.voice ∙ c.init.ensures.voice
