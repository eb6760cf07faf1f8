-- No call of a voice is refused while an accepted sheet is rendered: by the law of `track`, for each of the four.
use mathlib.Core.List.{List}
use Prim.Native.Nat.{ℕ}
use Rattle.cue_sheet.proofs.FirstLines.{accepted_head}
use Rattle.track.proofs.Cues.{cues_of}
use Rattle.track.proofs.Accepts.{sheet-rate, none_refused}
use Rattle.cue_render.specs.Calls.{NoneRefused}
use Rattle.track.proofs.Laws.{lawful}
use Rattle.cue_render.proofs.Voices.{bass_lawful, snare_lawful, synthetic_snare_lawful, hihat_lawful}

pub never_refused : (sheet : List ℕ) → NoneRefused sheet
unfolding NoneRefused
never_refused sheet head cues h =
    let known = accepted_head sheet h in
    let rate = sheet-rate head known in
    let short = known.longest in
    let cues = cues_of head sheet in
    record {
      b = none_refused _ (lawful bass_lawful) head rate short _ cues;
      s = none_refused _ (lawful snare_lawful) head rate short _ cues;
      y = none_refused _ (lawful synthetic_snare_lawful) head rate short _ cues;
      h = none_refused _ (lawful hihat_lawful) head rate short _ cues;
    }
