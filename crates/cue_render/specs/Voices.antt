-- The four voices as a sheet plays them: what each of their cues sets, and what it has no field for. Definitions only.
use Prim.Native.Char.{code}
use Rattle.std.specs.Prelude.{true, false}
use Rattle.std.proofs.Math.Option.{Option, none, some}
use Rattle.ieee754.specs.Single.{decimal}
use Rattle.analog_bass_drum.specs.AnalogBassDrum as AnalogBassDrum
use Rattle.analog_bass_drum.specs.declared.AnalogBassDrum.{AnalogBassDrum as BassVoice}
use Rattle.analog_snare_drum.specs.AnalogSnareDrum as AnalogSnareDrum
use Rattle.analog_snare_drum.specs.declared.AnalogSnareDrum.{AnalogSnareDrum as SnareVoice}
use Rattle.synthetic_snare_drum.specs.SyntheticSnareDrum as SyntheticSnareDrum
use Rattle.synthetic_snare_drum.specs.declared.SyntheticSnareDrum.{SyntheticSnareDrum as SyntheticSnareVoice}
use Rattle.hihat.specs.Hihat as Hihat
use Rattle.hihat.specs.declared.Hihat.{Hihat as HihatVoice}
use Rattle.hihat.specs.declared.VcaType.TheVariants.{Swing}
use Rattle.cue_sheet.specs.declared.line.Cue.{Cue}
use Rattle.cue_sheet.specs.declared.line.Cue.TheVariants.{Bass, Snare, SyntheticSnare, Hihat as HihatCue}
use Rattle.track.specs.Track.{Calls, Player}

-- b: self_fm_amount is 0.0
unfoldable pub bass_cue : Cue → Option (Calls BassVoice)
bass_cue (Bass accent f0 tone decay attack_fm_amount) =
    some (record {
      strike = λ v. AnalogBassDrum.strike v accent;
      run = λ v. AnalogBassDrum.run v (record { f0 = f0; tone = tone; decay = decay; attack_fm_amount = attack_fm_amount; self_fm_amount = decimal 0 0 });
    })
bass_cue (Snare accent f0 tone decay snappy) = none
bass_cue (SyntheticSnare accent f0 fm_amount decay snappy) = none
bass_cue (HihatCue accent f0 tone decay noisiness) = none

abbrev pub bass : Player BassVoice
bass = record { letter = code "b"; init = AnalogBassDrum.init AnalogBassDrum.ZERO; calls = bass_cue }

-- s
unfoldable pub snare_cue : Cue → Option (Calls SnareVoice)
snare_cue (Bass accent f0 tone decay attack_fm_amount) = none
snare_cue (Snare accent f0 tone decay snappy) =
    some (record {
      strike = λ v. AnalogSnareDrum.strike v accent;
      run = λ v. AnalogSnareDrum.run v (record { f0 = f0; tone = tone; decay = decay; snappy = snappy });
    })
snare_cue (SyntheticSnare accent f0 fm_amount decay snappy) = none
snare_cue (HihatCue accent f0 tone decay noisiness) = none

abbrev pub snare : Player SnareVoice
snare = record { letter = code "s"; init = AnalogSnareDrum.init AnalogSnareDrum.ZERO; calls = snare_cue }

-- y: it does not sustain
unfoldable pub synthetic_snare_cue : Cue → Option (Calls SyntheticSnareVoice)
synthetic_snare_cue (Bass accent f0 tone decay attack_fm_amount) = none
synthetic_snare_cue (Snare accent f0 tone decay snappy) = none
synthetic_snare_cue (SyntheticSnare accent f0 fm_amount decay snappy) =
    some (record {
      strike = λ v. SyntheticSnareDrum.strike v accent decay;
      run = λ v. SyntheticSnareDrum.run v (record { sustain = false; accent = accent; f0 = f0; fm_amount = fm_amount; decay = decay; snappy = snappy });
    })
synthetic_snare_cue (HihatCue accent f0 tone decay noisiness) = none

abbrev pub synthetic_snare : Player SyntheticSnareVoice
synthetic_snare = record { letter = code "y"; init = SyntheticSnareDrum.init SyntheticSnareDrum.ZERO; calls = synthetic_snare_cue }

-- h: Swing, with resonance, without a two-stage envelope; it does not sustain
unfoldable pub hihat_cue : Cue → Option (Calls HihatVoice)
hihat_cue (Bass accent f0 tone decay attack_fm_amount) = none
hihat_cue (Snare accent f0 tone decay snappy) = none
hihat_cue (SyntheticSnare accent f0 fm_amount decay snappy) = none
hihat_cue (HihatCue accent f0 tone decay noisiness) =
    some (record {
      strike = λ v. Hihat.strike v accent decay;
      run = λ v. Hihat.run v Swing (record {
        sustain = false;
        accent = accent;
        f0 = f0;
        tone = tone;
        decay = decay;
        noisiness = noisiness;
        resonance = true;
        two_stage_envelope = false;
      });
    })

abbrev pub hihat : Player HihatVoice
hihat = record { letter = code "h"; init = Hihat.init Hihat.ZERO; calls = hihat_cue }
