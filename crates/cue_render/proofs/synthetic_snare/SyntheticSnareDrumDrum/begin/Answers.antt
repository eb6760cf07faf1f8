-- The record of zeros is the definition's, by computing.
use Rattle.std.proofs.Common.{◌∙◌}
use lib.Ieee.{round, of_bits}
use Rattle.filter.specs.OnePole as OnePole
use Rattle.filter.specs.Svf as Svf
use Rattle.synthetic_snare_drum.specs.SyntheticSnareDrum as SyntheticSnareDrum
use Rattle.cue_render.proofs.synthetic_snare.SyntheticSnareDrumDrum.begin.Goals as goal

pub returns : goal.returns
unfolding SyntheticSnareDrum.ZERO Svf.ZERO OnePole.ZERO round of_bits
returns c = c.number_and_voice.ensures.voice ∙ c.init.ensures.voice
