-- The record of zeros is the definition's, by computing.
use Rattle.std.proofs.Common.{◌∙◌}
use lib.Ieee.{round, of_bits}
use Rattle.filter.specs.Svf as Svf
use Rattle.hihat.specs.Hihat as Hihat
use Rattle.cue_render.proofs.hi_hat.HihatDrum.begin.Goals as goal

pub returns : goal.returns
unfolding Hihat.ZERO Svf.ZERO round of_bits
returns c = c.number_and_voice.ensures.voice ∙ c.init.ensures.voice
