-- THE PORT'S OWN, which private contracts alone cite: the cues of the lines that are left, a voice's next cue, and where the run before it ends. Definitions only.
use Rattle.std.specs.Prelude.{ℕ, ◌≤◌, ◌≡◌, true, List, [], ◌∷◌, Option, None, Some, pos, length, Float}
use Rattle.std.specs.Float.{binary32}
use Rattle.std.specs.Float.Ieee.{of_int}
use Rattle.refusal.specs.Refusal.{is_sample_rate}
use Rattle.text.specs.Read.{lines}
use Rattle.cue_sheet.specs.declared.line.Strike.{Strike}
use Rattle.cue_sheet.specs.Sheet.{strikes_from}
use Rattle.cue_sheet.specs.declared.Head.{Head}
use Rattle.cue_sheet.specs.declared.walk.CueLines.{CueLines}
use Rattle.track.specs.Track.{Calls}
use Rattle.track.specs.Own.{Own}
use Rattle.cue_render.specs.declared.own_track.OwnCue.{OwnCue}

-- the cues of the lines that are left
abbrev pub left : CueLines → List Strike
left c = strikes_from c.walk (lines c.rest.now)

-- a voice's own cues, the next of them and then those after it: where there is no next, none is left. `calls` is the voice's calls with what a cue sets
abbrev pub from_next : {Voice Sets : Type 0} → (Sets → Calls Voice) → Option (OwnCue Sets) → List (Own Voice) → List (Own Voice)
from_next calls None os = []
from_next calls (Some c) os = record { start = c.start; calls = calls c.sets } ∷ os

-- the end of the run before a cue, which is the sheet's end where there is none
abbrev pub end_of : {Sets : Type 0} → ℕ → Option (OwnCue Sets) → ℕ
end_of length None = length
end_of length (Some c) = c.start

-- what an accepted sheet and the buffers for it are
pub record Playable (head : Head) (out scratch : List Float) : Type 0 where
  pub rate : is_sample_rate (of_int binary32 (pos head.rate)) ≡ true
  pub short : head.length ≤ 16384
  pub room : length out ≡ head.length
  pub enough : length scratch ≡ 16384
