-- A cue sheet rendered into a buffer: the samples of an accepted sheet, the answer, and what the buffer holds. Definitions only.
use Rattle.std.specs.Prelude.{ℕ, cond, List, ◌++◌, leb, drop, Float}
use Rattle.std.proofs.Math.ListN as List
use Rattle.cue_sheet.specs.declared.line.Strike.{Strike}
use Rattle.cue_sheet.specs.Sheet.{SheetAnswer, accepted, refused_at, judge, strikes}
use Rattle.cue_sheet.specs.declared.Head.{Head}
use Rattle.track.specs.Mix.{silence, mixed}
use Rattle.track.specs.Track.{track}
use Rattle.cue_render.specs.Voices.{bass, snare, synthetic_snare, hihat}

-- ---- the samples: each is 0.0 plus the struck voices in the order b, s, y, h
unfoldable pub samples : Head → List Strike → List Float
samples head strikes =
    let b = mixed (silence head.length) (track bass head strikes) in
    let s = mixed b (track snare head strikes) in
    let y = mixed s (track synthetic_snare head strikes) in
    mixed y (track hihat head strikes)

-- ---- the answer: that of the sheet, and last of all 11 with line 0 where the buffer has fewer places than the sheet has samples
unfoldable pub in_buffer : ℕ → SheetAnswer → SheetAnswer
in_buffer places (accepted head cues) = cond (leb head.length places) (accepted head cues) (refused_at 11 0)
in_buffer places (refused_at number line) = refused_at number line

unfoldable pub answer : List ℕ → List Float → SheetAnswer
answer sheet out = in_buffer (List.length out) (judge sheet)

-- ---- the buffer: the samples and what stood past them, or all that it held
unfoldable pub filled : SheetAnswer → List ℕ → List Float → List Float
filled (accepted head cues) sheet out = samples head (strikes head sheet) ++ drop head.length out
filled (refused_at number line) sheet out = out

unfoldable pub render : List ℕ → List Float → List Float
render sheet out = filled (answer sheet out) sheet out
