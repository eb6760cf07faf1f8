-- The voices one after the other, each adding its track to what those before it left.
use Rattle.std.proofs.Common.{◌≡◌, ℕ, List}
use lib.Ieee.{Float, round, of_bits}
use Rattle.cue_sheet.specs.declared.line.Strike.{Strike}
use Rattle.cue_sheet.specs.declared.Head.{Head}
use Rattle.track.specs.Mix.{silence, mixed}
use Rattle.track.specs.Track.{track}
use Rattle.cue_render.specs.Voices.{bass as bass_player, snare as snare_player, synthetic_snare, hihat}
use Rattle.cue_render.specs.Render.{samples}
use Rattle.cue_render.proofs.Voices.{bass_lawful, snare_lawful, synthetic_snare_lawful, hihat_lawful}
use Rattle.cue_render.proofs.render_voices.Goals as goal

pub add_track-requires-clause-lawful : goal.add_track-requires-clause-lawful
add_track-requires-clause-lawful c = bass_lawful

pub add_track-requires-2-clause-lawful : goal.add_track-requires-2-clause-lawful
add_track-requires-2-clause-lawful c = snare_lawful

pub add_track-requires-3-clause-lawful : goal.add_track-requires-3-clause-lawful
add_track-requires-3-clause-lawful c = synthetic_snare_lawful

pub add_track-requires-4-clause-lawful : goal.add_track-requires-4-clause-lawful
add_track-requires-4-clause-lawful c = hihat_lawful

-- the buffer when it is cleared, and after each voice
in_order : (head : Head) (ss : List Strike) {n : ℕ} {out out₁ out₂ out₃ out₄ : List Float} → out ≡ silence n → n ≡ head.length → out₁ ≡ mixed out (track bass_player head ss)
    → out₂ ≡ mixed out₁ (track snare_player head ss) → out₃ ≡ mixed out₂ (track synthetic_snare head ss) → out₄ ≡ mixed out₃ (track hihat head ss) → out₄ ≡ samples head ss
unfolding samples
in_order head ss clear long b s y h = rw (h, y, s, b, clear, long)

pub returns : goal.returns
unfolding silence round of_bits
returns c =
    in_order _ _ (c.fill.ensures.after (λ y e. e)) c.requires.room c.add_track.ensures c.add_track-2.ensures c.add_track-3.ensures c.add_track-4.ensures
