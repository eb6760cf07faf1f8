-- The knob that a sheet has no field for is the definition's 0.0, by computing.
use Rattle.std.proofs.Common.{refl}
use lib.Ieee.{round, of_bits}
use Rattle.cue_render.specs.Voices.{bass_cue}
use Rattle.cue_render.proofs.bass.AnalogBassDrumDrum.own.Goals as goal

pub returns-in-Bass : goal.returns-in-Bass
unfolding bass_cue round of_bits
returns-in-Bass c = rw c.in-Bass.is refl
