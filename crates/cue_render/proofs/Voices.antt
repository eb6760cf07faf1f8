-- The four voices may be played by a sheet: with knobs that have passed their questions they refuse no call, and a run in two is the whole run.
use Prim.Native.Char.{code}
use mathlib.Core.Path.{◌≡◌, refl, ap, ◌∙◌}
use mathlib.Core.Bool.{Bool, true}
use lib.Dec.{eqb}
use lib.ListN.{length}
use lib.Ieee.{le, round}
use borrow.Author.Tests.{le-leb}
use Rattle.ieee754.specs.Single.{decimal}
use Rattle.block.proofs.Blocks.{samples-length, scan-length}
use Rattle.refusal.specs.Refusal.{is_sample_rate, is_unit, within, strike_refusal}
use Rattle.analog_bass_drum.specs.AnalogBassDrum as AnalogBassDrum
use Rattle.analog_bass_drum.proofs.AnyBlockLength as BassBlocks
use Rattle.analog_snare_drum.specs.AnalogSnareDrum as AnalogSnareDrum
use Rattle.analog_snare_drum.proofs.AnyBlockLength as SnareBlocks
use Rattle.synthetic_snare_drum.specs.SyntheticSnareDrum as SyntheticSnareDrum
use Rattle.synthetic_snare_drum.proofs.AnyBlockLength as SyntheticSnareBlocks
use Rattle.synthetic_snare_drum.proofs.Rate as SyntheticSnareRate
use Rattle.hihat.specs.Hihat as Hihat
use Rattle.hihat.specs.declared.VcaType.TheVariants.{Swing}
use Rattle.hihat.proofs.AnyBlockLength as HihatBlocks
use Rattle.hihat.proofs.Rate as HihatRate
use Rattle.cue_sheet.specs.declared.line.Cue.{Cue}
use Rattle.cue_sheet.specs.declared.line.Cue.TheVariants.{Bass, Snare, SyntheticSnare, Hihat as HihatCue}
use Rattle.cue_sheet.specs.Knobs.{KnobsOf}
use Rattle.track.specs.Letters.{letter_of}
use Rattle.track.specs.Lawful.{PlaysAt, Tested, is_own}
use Rattle.cue_render.specs.Voices.{bass_cue, bass, snare_cue, snare, synthetic_snare_cue, synthetic_snare, hihat_cue, hihat}

-- ---- b
zero_unit : is_unit (decimal 0 0) ≡ true
unfolding is_unit within le round
zero_unit = refl

bass_plays : (cue : Cue) → KnobsOf cue → PlaysAt (λ v. ◌≡◌ {A = Bool} true true) (bass_cue cue)
unfolding bass_cue AnalogBassDrum.run_refusal AnalogBassDrum.knobs_refusal
bass_plays (Bass accent f0 tone decay attack_fm_amount) q = record {
  strikes = λ v ready. rw q.accent_in;
  struck = λ v ready. refl;
  runs = λ v ready out short. rw (le-leb (length out) 16384 short, q.frequency, q.a_in, q.decay_in, q.c_in, zero_unit);
  stays = λ v ready out. refl;
  in_two = BassBlocks.any_block_length _;
  fills = λ v out out' e h. rw (e, rw e at h);
  long = λ v out h. rw (h, samples-length);
}
bass_plays (Snare accent f0 tone decay snappy) q = tt
bass_plays (SyntheticSnare accent f0 fm_amount decay snappy) q = tt
bass_plays (HihatCue accent f0 tone decay noisiness) q = tt

bass_own : (cue : Cue) → is_own (bass_cue cue) ≡ eqb (letter_of cue) (code "b")
unfolding bass_cue is_own
bass_own (Bass accent f0 tone decay attack_fm_amount) = refl
bass_own (Snare accent f0 tone decay snappy) = refl
bass_own (SyntheticSnare accent f0 fm_amount decay snappy) = refl
bass_own (HihatCue accent f0 tone decay noisiness) = refl

pub bass_lawful : Tested bass
bass_lawful =
    record { ready = λ v. true; init-accepted = λ rate h. rw h; init_ready = λ rate h. refl; plays = bass_plays; own = bass_own }

-- ---- s
snare_plays : (cue : Cue) → KnobsOf cue → PlaysAt (λ v. ◌≡◌ {A = Bool} true true) (snare_cue cue)
unfolding snare_cue AnalogSnareDrum.run_refusal AnalogSnareDrum.knobs_refusal
snare_plays (Snare accent f0 tone decay snappy) q = record {
  strikes = λ v ready. rw q.accent_in;
  struck = λ v ready. refl;
  runs = λ v ready out short. rw (le-leb (length out) 16384 short, q.frequency, q.a_in, q.decay_in, q.c_in);
  stays = λ v ready out. refl;
  in_two = SnareBlocks.any_block_length _;
  fills = λ v out out' e h. rw (e, rw e at h);
  long = λ v out h. rw (h, samples-length);
}
snare_plays (Bass accent f0 tone decay attack_fm_amount) q = tt
snare_plays (SyntheticSnare accent f0 fm_amount decay snappy) q = tt
snare_plays (HihatCue accent f0 tone decay noisiness) q = tt

snare_own : (cue : Cue) → is_own (snare_cue cue) ≡ eqb (letter_of cue) (code "s")
unfolding snare_cue is_own
snare_own (Bass accent f0 tone decay attack_fm_amount) = refl
snare_own (Snare accent f0 tone decay snappy) = refl
snare_own (SyntheticSnare accent f0 fm_amount decay snappy) = refl
snare_own (HihatCue accent f0 tone decay noisiness) = refl

pub snare_lawful : Tested snare
snare_lawful =
    record { ready = λ v. true; init-accepted = λ rate h. rw h; init_ready = λ rate h. refl; plays = snare_plays; own = snare_own }

-- ---- y, which stores its rate and keeps it
synthetic_snare_plays : (cue : Cue) → KnobsOf cue → PlaysAt (λ v. is_sample_rate v.sample_rate_hz ≡ true) (synthetic_snare_cue cue)
unfolding synthetic_snare_cue SyntheticSnareDrum.run_refusal strike_refusal
synthetic_snare_plays (SyntheticSnare accent f0 fm_amount decay snappy) q = record {
  strikes = λ v ready. rw (ready, q.accent_in, q.decay_in);
  struck = λ v ready. ap is_sample_rate (SyntheticSnareRate.strike_keeps_rate v accent decay) ∙ ready;
  runs = λ v ready out short. rw (ready, le-leb (length out) 16384 short, q.frequency, q.accent_in, q.a_in, q.decay_in, q.c_in);
  stays = λ v ready out. ap is_sample_rate (SyntheticSnareRate.run_keeps_rate v _ out) ∙ ready;
  in_two = SyntheticSnareBlocks.any_block_length _ refl;
  fills = λ v out out' e h. rw (e, rw e at h);
  long = λ v out h. rw (h, samples-length);
}
synthetic_snare_plays (Bass accent f0 tone decay attack_fm_amount) q = tt
synthetic_snare_plays (Snare accent f0 tone decay snappy) q = tt
synthetic_snare_plays (HihatCue accent f0 tone decay noisiness) q = tt

synthetic_snare_own : (cue : Cue) → is_own (synthetic_snare_cue cue) ≡ eqb (letter_of cue) (code "y")
unfolding synthetic_snare_cue is_own
synthetic_snare_own (Bass accent f0 tone decay attack_fm_amount) = refl
synthetic_snare_own (Snare accent f0 tone decay snappy) = refl
synthetic_snare_own (SyntheticSnare accent f0 fm_amount decay snappy) = refl
synthetic_snare_own (HihatCue accent f0 tone decay noisiness) = refl

pub synthetic_snare_lawful : Tested synthetic_snare
unfolding SyntheticSnareDrum.initialized
synthetic_snare_lawful = record {
  ready = λ v. is_sample_rate v.sample_rate_hz;
  init-accepted = λ rate h. rw h;
  init_ready = λ rate h. rw h h;
  plays = synthetic_snare_plays;
  own = synthetic_snare_own;
}

-- ---- h, which does the same
hihat_plays : (cue : Cue) → KnobsOf cue → PlaysAt (λ v. is_sample_rate v.sample_rate ≡ true) (hihat_cue cue)
unfolding hihat_cue Hihat.run_refusal Hihat.passes strike_refusal
hihat_plays (HihatCue accent f0 tone decay noisiness) q = record {
  strikes = λ v ready. rw (ready, q.accent_in, q.decay_in);
  struck = λ v ready. ap is_sample_rate (HihatRate.strike_keeps_rate v accent decay) ∙ ready;
  runs = λ v ready out short. rw (ready, le-leb (length out) 16384 short, q.frequency, q.accent_in, q.a_in, q.decay_in, q.c_in);
  stays = λ v ready out. ap is_sample_rate (HihatRate.run_keeps_rate v Swing _ out) ∙ ready;
  in_two = HihatBlocks.any_block_length Swing _ refl;
  fills = λ v out out' e h. rw (e, rw e at h);
  long = λ v out h. rw (h, scan-length, scan-length, scan-length, scan-length, samples-length);
}
hihat_plays (Bass accent f0 tone decay attack_fm_amount) q = tt
hihat_plays (Snare accent f0 tone decay snappy) q = tt
hihat_plays (SyntheticSnare accent f0 fm_amount decay snappy) q = tt

hihat_own : (cue : Cue) → is_own (hihat_cue cue) ≡ eqb (letter_of cue) (code "h")
unfolding hihat_cue is_own
hihat_own (Bass accent f0 tone decay attack_fm_amount) = refl
hihat_own (Snare accent f0 tone decay snappy) = refl
hihat_own (SyntheticSnare accent f0 fm_amount decay snappy) = refl
hihat_own (HihatCue accent f0 tone decay noisiness) = refl

pub hihat_lawful : Tested hihat
unfolding Hihat.initialized
hihat_lawful = record {
  ready = λ v. is_sample_rate v.sample_rate;
  init-accepted = λ rate h. rw h;
  init_ready = λ rate h. rw h h;
  plays = hihat_plays;
  own = hihat_own;
}
