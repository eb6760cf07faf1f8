-- No call of a voice is refused while a sheet is rendered: what that is. Definitions only.
use Rattle.std.specs.Prelude.{ℕ, ◌≡◌, List}
use Rattle.cue_sheet.specs.declared.line.Strike.{Strike}
use Rattle.cue_sheet.specs.Sheet.{accepted, judge, strikes}
use Rattle.cue_sheet.specs.declared.Head.{Head}
use Rattle.track.specs.Track as Track
use Rattle.cue_render.specs.Voices.{bass, snare, synthetic_snare, hihat}

pub record AllAccepted (head : Head) (strikes : List Strike) : Type 0 where
  pub b : Track.NoneRefused bass head strikes
  pub s : Track.NoneRefused snare head strikes
  pub y : Track.NoneRefused synthetic_snare head strikes
  pub h : Track.NoneRefused hihat head strikes

unfoldable pub NoneRefused : List ℕ → Type 0
NoneRefused sheet = (head : Head) (cues : ℕ) → judge sheet ≡ accepted head cues → AllAccepted head (strikes head sheet)
