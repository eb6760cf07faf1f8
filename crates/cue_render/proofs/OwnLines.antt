-- Each of the four voices is an instance of the law of `track`.
use mathlib.Core.Path.{◌≡◌, refl}
use Rattle.cue_sheet.specs.Sheet.{strikes}
use Rattle.track.specs.Track.{track}
use Rattle.track.proofs.OwnLines.{own_lines_only}
use Rattle.track.proofs.MovedCue.{head, sheet, moved_cue}
use Rattle.cue_render.specs.Voices.{hihat}
use Rattle.cue_render.specs.OwnLines.{EachVoice}
use Rattle.track.proofs.Laws.{lawful}
use Rattle.cue_render.proofs.Voices.{bass_lawful, snare_lawful, synthetic_snare_lawful, hihat_lawful}

pub own_lines_only_each : EachVoice
own_lines_only_each = record {
  b = own_lines_only _ (lawful bass_lawful);
  s = own_lines_only _ (lawful snare_lawful);
  y = own_lines_only _ (lawful synthetic_snare_lawful);
  h = own_lines_only _ (lawful hihat_lawful);
}

-- the case that was reported: a sheet of two h cues and one s cue, which is moved
pub hiss_kept : track hihat head (strikes head (sheet "4000")) ≡ track hihat head (strikes head (sheet "4800"))
hiss_kept = moved_cue hihat (lawful hihat_lawful) refl
