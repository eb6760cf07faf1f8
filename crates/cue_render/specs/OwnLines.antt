-- A joint knock does not change the wheel hiss: before mixing, a voice's samples in an accepted sheet depend on nothing but the sheet's rate and length and
-- the voice's own cue lines. Definitions only.
use Rattle.track.specs.OwnLines.{OwnLinesOnly}
use Rattle.cue_render.specs.Voices.{bass, snare, synthetic_snare, hihat}

-- of the very tracks whose sums are the samples
pub record EachVoice : Type 0 where
  pub b : OwnLinesOnly bass
  pub s : OwnLinesOnly snare
  pub y : OwnLinesOnly synthetic_snare
  pub h : OwnLinesOnly hihat
