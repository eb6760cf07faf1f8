-- drums/synthetic_snare_drum.rs, statement by statement, sustain included. Definitions only.
use Rattle.std.specs.Prelude.{ℕ, ◌-◌, ◌^◌, Bool, cond, not, ◌||◌, List, [], ◌∷◌, eqb, length, get_or, Float}
use Rattle.std.specs.Int.Bits.{bit_and}
use Rattle.std.specs.Float.{nan}
use Rattle.std.specs.Float.Ieee.{neg, le, lt, to_unsigned}
use Rattle.ieee754.specs.Single.{◌⊕◌, ◌⊖◌, ◌⊗◌, ◌⊘◌, decimal}
use Rattle.ieee754.specs.Operations.{abs, minimum_number, clamp}
use Rattle.block.specs.declared.Turn.{Turn}
use Rattle.block.specs.Block.{samples, after}
use Rattle.refusal.specs.Refusal.{Call, call, ask, is_sample_rate, is_block_length, is_frequency, is_unit, strike_refusal}
use Rattle.random.specs.Random.{get_float}
use Rattle.units.specs.Units.{ratio}
use Rattle.utils.specs.Utils.{sqrt}
use Rattle.filter.specs.OnePole as OnePole
use Rattle.filter.specs.Svf as Svf
use Rattle.filter.specs.declared.OnePole.{OnePole}
use Rattle.filter.specs.declared.Svf.{Svf}
use Rattle.filter.specs.declared.FilterMode.TheVariants.{LowPass, HighPass}
use Rattle.filter.specs.declared.FrequencyApproximation.TheVariants.{Fast}
use Rattle.parameter_interpolator.specs.ParameterInterpolator as ParameterInterpolator
use Rattle.synthetic_snare_drum.specs.declared.SyntheticSnareDrum.{SyntheticSnareDrum}
use Rattle.synthetic_snare_drum.specs.declared.Knobs.{Knobs}
use Rattle.synthetic_snare_drum.specs.declared.Settings.{Settings}

-- ---- init

-- the voice of this rate, with these filters and this noise state, every other field zero
abbrev pub silent : Float → OnePole → OnePole → Svf → ℕ → SyntheticSnareDrum
silent sample_rate_hz drum_lp snare_hp snare_lp noise =
    record {
      sample_rate_hz = sample_rate_hz;
      phase = decimal 0 0 ∷ decimal 0 0 ∷ [];
      drum_amplitude = decimal 0 0;
      snare_amplitude = decimal 0 0;
      fm = decimal 0 0;
      sustain_gain = decimal 0 0;
      hold_counter = 0;
      drum_lp = drum_lp;
      snare_hp = snare_hp;
      snare_lp = snare_lp;
      noise = noise;
    }

unfoldable pub ZERO : SyntheticSnareDrum
ZERO = silent (decimal 0 0) OnePole.ZERO OnePole.ZERO Svf.ZERO 0

-- 33 is the first state of the noise, `static RNG_STATE: AtomicU32 = AtomicU32::new(0x21);`, here one for each voice
unfoldable pub initialized : SyntheticSnareDrum → Float → SyntheticSnareDrum
initialized self sample_rate_hz =
    silent sample_rate_hz (OnePole.init self.drum_lp) (OnePole.init self.snare_hp) (Svf.init self.snare_lp) 33

abbrev pub init : SyntheticSnareDrum → Float → Call SyntheticSnareDrum
init self sample_rate_hz = call (ask (is_sample_rate sample_rate_hz) 1 0) (initialized self sample_rate_hz) [] self []

-- ---- the lines of `render` before its loop

-- what stays the same over the block; size is `out.len()`
unfoldable pub settings : SyntheticSnareDrum → Knobs → ℕ → Settings
settings self k size =
    let rate = self.sample_rate_hz in
    let decay = k.decay in
    let snappy = k.snappy in
    let decay_xt = decay ⊗ (decimal 1 0 ⊕ decay ⊗ (decay ⊖ decimal 1 0)) in
    let fm_amount = k.fm_amount ⊗ k.fm_amount in
    let semitones = neg decay_xt ⊗ decimal 72 0 ⊖ fm_amount ⊗ decimal 12 0 ⊕ snappy ⊗ decimal 7 0 in
    let drum_decay = decimal 1 0 ⊖ decimal 1 0 ⊘ (decimal 15 3 ⊗ rate) ⊗ ratio semitones in
    let semitones = neg decay ⊗ decimal 60 0 ⊖ snappy ⊗ decimal 7 0 in
    let snare_decay = decimal 1 0 ⊖ decimal 1 0 ⊘ (decimal 1 2 ⊗ rate) ⊗ ratio semitones in
    let snappy = snappy ⊗ decimal 11 1 ⊖ decimal 5 2 in
    let snappy = clamp snappy (decimal 0 0) (decimal 1 0) in
    record {
      sustain = k.sustain;
      f0 = k.f0;
      fm_amount = fm_amount;
      drum_decay = drum_decay;
      snare_decay = snare_decay;
      fm_decay = decimal 1 0 ⊖ decimal 1 0 ⊘ (decimal 7 3 ⊗ rate);
      snappy = snappy;
      drum_level = sqrt (decimal 1 0 ⊖ snappy);
      snare_level = sqrt snappy;
      -- `ParameterInterpolator::new(&mut self.sustain_gain, accent * decay, out.len());`: its value is the voice's sustain_gain itself
      increment = (ParameterInterpolator.new self.sustain_gain (k.accent ⊗ decay) size).increment;
    }

unfoldable pub tuned : SyntheticSnareDrum → Settings → SyntheticSnareDrum
tuned self b =
    let snare_f_min = minimum_number (decimal 10 0 ⊗ b.f0) (decimal 5 1) in
    let snare_f_max = minimum_number (decimal 35 0 ⊗ b.f0) (decimal 5 1) in
    record {
      sample_rate_hz = self.sample_rate_hz;
      phase = self.phase;
      drum_amplitude = self.drum_amplitude;
      snare_amplitude = self.snare_amplitude;
      fm = self.fm;
      sustain_gain = self.sustain_gain;
      hold_counter = self.hold_counter;
      drum_lp = OnePole.set_f self.drum_lp (decimal 3 0 ⊗ b.f0) Fast;
      snare_hp = OnePole.set_f self.snare_hp snare_f_min Fast;
      snare_lp = Svf.set_f_q self.snare_lp snare_f_max (decimal 5 1 ⊕ decimal 2 0 ⊗ b.snappy) Fast;
      noise = self.noise;
    }

-- what stands under `if trigger {`, with a u32 for `as i32`
unfoldable pub triggered : SyntheticSnareDrum → Float → Float → SyntheticSnareDrum
triggered self accent decay =
    let snare_amplitude = decimal 3 1 ⊕ decimal 7 1 ⊗ accent in
    record {
      sample_rate_hz = self.sample_rate_hz;
      phase = decimal 0 0 ∷ decimal 0 0 ∷ [];
      drum_amplitude = snare_amplitude;
      snare_amplitude = snare_amplitude;
      fm = decimal 1 0;
      sustain_gain = self.sustain_gain;
      hold_counter = to_unsigned 32 ((decimal 4 2 ⊕ decay ⊗ decimal 3 2) ⊗ self.sample_rate_hz);
      drum_lp = self.drum_lp;
      snare_hp = self.snare_hp;
      snare_lp = self.snare_lp;
      noise = self.noise;
    }

-- ---- one turn of the loop

-- `if reset_noise_amount > 0.1 {` and its `else`, for either phase: no wrap, 1.0 is taken off at most once
unfoldable pub reset : Float → Float → Float → Float
reset reset_noise_amount reset_noise phase =
    cond (lt (decimal 1 1) reset_noise_amount)
    (cond (le (decimal 1 0 ⊕ reset_noise) phase) (decimal 1 0 ⊖ phase) phase)
    (cond (le (decimal 1 0) phase) (phase ⊖ decimal 1 0) phase)

unfoldable pub distorted_sine : Float → Float
distorted_sine phase =
    let triangle = cond (lt phase (decimal 5 1)) phase (decimal 1 0 ⊖ phase) ⊗ decimal 4 0 ⊖ decimal 13 1 in
    decimal 2 0 ⊗ triangle ⊘ (decimal 1 0 ⊕ abs triangle)

-- b is what stays the same over the block. What the Rust writes to a field has the field's name here, but `let noise` is its local variable
unfoldable pub step : Settings → ℕ → SyntheticSnareDrum → Turn SyntheticSnareDrum
step b size self =
    let phase₀ = get_or self.phase 0 nan in
    let phase₁ = get_or self.phase 1 nan in
    -- `if sustain {`: `sustain_gain.next()` steps the voice's sustain_gain, which stays as it is past the `else`
    let sustain = b.sustain in
    let next = (ParameterInterpolator.next (record { value = self.sustain_gain; increment = b.increment })).value in
    let sustain_gain = cond sustain next self.sustain_gain in
    -- `if self.drum_amplitude > 0.03 || !(size & 1) != 0 {`: the not is of the 64 bits of a usize
    let decays = lt (decimal 3 2) self.drum_amplitude || not (eqb (2 ^ 64 - 1 - bit_and size 1) 0) in
    let drum_amplitude = cond sustain next (self.drum_amplitude ⊗ cond decays b.drum_decay (decimal 1 0)) in
    -- `if self.hold_counter != 0 {`, and `self.hold_counter -= 1;`, which leaves a 0 here as it is
    let hold_counter = cond sustain self.hold_counter (self.hold_counter - 1) in
    let decayed = cond (eqb self.hold_counter 0) (self.snare_amplitude ⊗ b.snare_decay) self.snare_amplitude in
    let snare_amplitude = cond sustain next decayed in
    let fm = cond sustain (decimal 0 0) (self.fm ⊗ b.fm_decay) in
    -- the oscillators' coupling
    let reset_noise = decimal 0 0 in
    let reset_noise_amount = (decimal 125 3 ⊖ b.f0) ⊗ decimal 8 0 in
    let reset_noise_amount = clamp reset_noise_amount (decimal 0 0) (decimal 1 0) in
    let reset_noise_amount = reset_noise_amount ⊗ reset_noise_amount in
    let reset_noise_amount = reset_noise_amount ⊗ b.fm_amount in
    let reset_noise = reset_noise ⊕ cond (lt (decimal 5 1) phase₀) (neg (decimal 1 0)) (decimal 1 0) in
    let reset_noise = reset_noise ⊕ cond (lt (decimal 5 1) phase₁) (neg (decimal 1 0)) (decimal 1 0) in
    let reset_noise = reset_noise ⊗ (reset_noise_amount ⊗ decimal 25 3) in
    let f = b.f0 ⊗ (decimal 1 0 ⊕ b.fm_amount ⊗ (decimal 4 0 ⊗ fm)) in
    let phase₀ = reset reset_noise_amount reset_noise (phase₀ ⊕ f) in
    let phase₁ = reset reset_noise_amount reset_noise (phase₁ ⊕ f ⊗ decimal 147 2) in
    let drum = neg (decimal 1 1) in
    let drum = drum ⊕ distorted_sine phase₀ ⊗ decimal 60 2 in
    let drum = drum ⊕ distorted_sine phase₁ ⊗ decimal 25 2 in
    let drum = drum ⊗ (drum_amplitude ⊗ b.drum_level) in
    let drum = OnePole.process self.drum_lp drum LowPass in
    let noise = get_float self.noise in
    let low = Svf.process self.snare_lp noise.value LowPass in
    let high = OnePole.process self.snare_hp low.out HighPass in
    let snare = (high.out ⊕ decimal 1 1) ⊗ (snare_amplitude ⊕ fm) ⊗ b.snare_level in
    record {
      sample = snare ⊕ drum.out;
      next = record {
        sample_rate_hz = self.sample_rate_hz;
        phase = phase₀ ∷ phase₁ ∷ [];
        drum_amplitude = drum_amplitude;
        snare_amplitude = snare_amplitude;
        fm = fm;
        sustain_gain = sustain_gain;
        hold_counter = hold_counter;
        drum_lp = drum.filter;
        snare_hp = high.filter;
        snare_lp = low.filter;
        noise = noise.word;
      };
    }

-- ---- render

-- the number of the first question that is not passed, of `render` and of a run alike; 0 where all are
unfoldable pub run_refusal : Float → Knobs → ℕ → ℕ
run_refusal sample_rate_hz k size =
    ask (is_sample_rate sample_rate_hz) 1
    (ask (is_block_length size) 2
    (ask (is_frequency k.f0) 3
    (ask (is_unit k.accent) 4
    (ask (is_unit k.fm_amount) 5
    (ask (is_unit k.decay) 5
    (ask (is_unit k.snappy) 5 0))))))

abbrev pub render : SyntheticSnareDrum → Bool → Knobs → List Float → Call SyntheticSnareDrum
render self trigger k out =
    let size = length out in
    let b = settings self k size in
    let voice = tuned self b in
    let begun = cond trigger (triggered voice k.accent k.decay) voice in
    call (run_refusal self.sample_rate_hz k size) (after (step b size) size begun) (samples (step b size) size begun) self out

-- ---- `render` as two calls (specs/StrikeThenRun.antt): a strike is what stands under `if trigger {`, a run is all else

abbrev pub strike : SyntheticSnareDrum → Float → Float → Call SyntheticSnareDrum
strike self accent decay = call (strike_refusal self.sample_rate_hz accent decay) (triggered self accent decay) [] self []

abbrev pub run : SyntheticSnareDrum → Knobs → List Float → Call SyntheticSnareDrum
run self k out =
    let size = length out in
    let b = settings self k size in
    let voice = tuned self b in
    call (run_refusal self.sample_rate_hz k size) (after (step b size) size voice) (samples (step b size) size voice) self out
