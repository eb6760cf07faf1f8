-- drums/hihat.rs: `Hihat`, statement by statement, for `NoiseType::Square`. Definitions only.
use Rattle.std.specs.Prelude.{ℕ, Bool, cond, not, ◌||◌, List, [], length, Float}
use Rattle.std.specs.Float.Ieee.{neg, le, lt}
use Rattle.ieee754.specs.Single.{◌⊕◌, ◌⊖◌, ◌⊗◌, ◌⊘◌, decimal}
use Rattle.ieee754.specs.Operations.{abs, clamp}
use Rattle.block.specs.declared.Turn.{Turn}
use Rattle.block.specs.Block.{Passed, filled, pass, setting}
use Rattle.refusal.specs.Refusal.{Call, call, ask, is_sample_rate, is_block_length, is_frequency, is_unit, strike_refusal}
use Rattle.units.specs.Units.{ratio}
use Rattle.random.specs.Random.{get_float}
use Rattle.parameter_interpolator.specs.ParameterInterpolator as ParameterInterpolator
use Rattle.filter.specs.Svf as Svf
use Rattle.filter.specs.declared.Svf.{Svf as Filter}
use Rattle.filter.specs.declared.FilterMode.TheVariants.{BandPass, HighPass}
use Rattle.filter.specs.declared.FrequencyApproximation.TheVariants.{Accurate}
use Rattle.hihat.specs.declared.Hihat.{Hihat}
use Rattle.hihat.specs.declared.Knobs.{Knobs}
use Rattle.hihat.specs.declared.Settings.{Settings}
use Rattle.hihat.specs.declared.VcaType.{VcaType}
use Rattle.hihat.specs.declared.VcaType.TheVariants.{Swing, Linear}
use Rattle.hihat.specs.declared.square_noise.SquareNoise.{SquareNoise as Squares}
use Rattle.hihat.specs.SquareNoise as SquareNoise

-- ---- init

-- the voice of this rate, with these filters and this noise state, every other field zero
abbrev pub silent : Float → Filter → Filter → ℕ → Hihat
silent sample_rate noise_coloration_svf hpf noise =
    record {
      sample_rate = sample_rate;
      envelope = decimal 0 0;
      noise_clock = decimal 0 0;
      noise_sample = decimal 0 0;
      sustain_gain = decimal 0 0;
      square_noise = SquareNoise.init;
      noise_coloration_svf = noise_coloration_svf;
      hpf = hpf;
      noise = noise;
    }

unfoldable pub ZERO : Hihat
ZERO = silent (decimal 0 0) Svf.ZERO Svf.ZERO 0

-- the noise state is that of `static RNG_STATE: AtomicU32 = AtomicU32::new(0x21);`, now one for each voice
unfoldable pub initialized : Hihat → Float → Hihat
initialized self sample_rate = silent sample_rate (Svf.init self.noise_coloration_svf) (Svf.init self.hpf) 33

abbrev pub init : Hihat → Float → Call Hihat
init self sample_rate = call (ask (is_sample_rate sample_rate) 1 0) (initialized self sample_rate) [] self []

-- ---- render: what stays the same over the block, and the trigger

unfoldable pub settings : Hihat → VcaType → Knobs → ℕ → Settings
settings self vca_type k samples =
    -- `noisiness *= noisiness;`
    let noisiness = k.noisiness ⊗ k.noisiness in
    record {
      envelope_decay = decimal 1 0 ⊖ decimal 3 3 ⊗ ratio (neg k.decay ⊗ decimal 84 0);
      cut_decay = decimal 1 0 ⊖ decimal 25 4 ⊗ ratio (neg k.decay ⊗ decimal 36 0);
      -- `self.square_noise.render(2.0 * f0, out);`
      increment = SquareNoise.increments (decimal 2 0 ⊗ k.f0);
      -- `cutoff = cutoff.clamp(0.0, 16000.0 / self.sample_rate);`
      cutoff = clamp (decimal 150 0 ⊘ self.sample_rate ⊗ ratio (k.tone ⊗ decimal 72 0)) (decimal 0 0) (decimal 16000 0 ⊘ self.sample_rate);
      -- `if resonance { 3.0 + 3.0 * tone } else { 1.0 },`
      q = cond k.resonance (decimal 3 0 ⊕ decimal 3 0 ⊗ k.tone) (decimal 1 0);
      noisiness = noisiness;
      noise_f = clamp (k.f0 ⊗ (decimal 16 0 ⊕ decimal 16 0 ⊗ (decimal 1 0 ⊖ noisiness))) (decimal 0 0) (decimal 5 1);
      -- `ParameterInterpolator::new(&mut self.sustain_gain, accent * decay, out.len());`: its value is the field itself
      gain_increment = (ParameterInterpolator.new self.sustain_gain (k.accent ⊗ k.decay) samples).increment;
      sustain = k.sustain;
      vca_type = vca_type;
      two_stage_envelope = k.two_stage_envelope;
    }

-- the voice with other gains, with other clocked noise, and with other parts: each statement changes its own
abbrev pub gains : Hihat → Float → Float → Hihat
gains self envelope sustain_gain =
    record {
      sample_rate = self.sample_rate;
      envelope = envelope;
      noise_clock = self.noise_clock;
      noise_sample = self.noise_sample;
      sustain_gain = sustain_gain;
      square_noise = self.square_noise;
      noise_coloration_svf = self.noise_coloration_svf;
      hpf = self.hpf;
      noise = self.noise;
    }

abbrev pub noises : Hihat → Float → Float → ℕ → Hihat
noises self noise_clock noise_sample noise =
    record {
      sample_rate = self.sample_rate;
      envelope = self.envelope;
      noise_clock = noise_clock;
      noise_sample = noise_sample;
      sustain_gain = self.sustain_gain;
      square_noise = self.square_noise;
      noise_coloration_svf = self.noise_coloration_svf;
      hpf = self.hpf;
      noise = noise;
    }

abbrev pub parts : Hihat → Squares → Filter → Filter → Hihat
parts self square_noise noise_coloration_svf hpf =
    record {
      sample_rate = self.sample_rate;
      envelope = self.envelope;
      noise_clock = self.noise_clock;
      noise_sample = self.noise_sample;
      sustain_gain = self.sustain_gain;
      square_noise = square_noise;
      noise_coloration_svf = noise_coloration_svf;
      hpf = hpf;
      noise = self.noise;
    }

unfoldable pub triggered : Hihat → Float → Float → Hihat
triggered self accent decay =
    let envelope = (decimal 15 1 ⊕ decimal 5 1 ⊗ (decimal 1 0 ⊖ decay)) ⊗ (decimal 3 1 ⊕ decimal 7 1 ⊗ accent) in
    gains self envelope self.sustain_gain

-- ---- the passes over the block, each by a sample: b is what stays the same

unfoldable pub metallic : Settings → Hihat → Turn Hihat
metallic b self =
    let square = SquareNoise.turn b.increment self.square_noise in
    record { sample = square.sample; next = parts self square.next self.noise_coloration_svf self.hpf }

unfoldable pub set_coloration : Settings → Hihat → Hihat
set_coloration b self =
    parts self self.square_noise (Svf.set_f_q self.noise_coloration_svf b.cutoff b.q Accurate) self.hpf

unfoldable pub colored : Hihat → Float → Turn Hihat
colored self out =
    let o = Svf.process self.noise_coloration_svf out BandPass in
    record { sample = o.out; next = parts self self.square_noise o.filter self.hpf }

unfoldable pub clocked : Settings → Hihat → Float → Turn Hihat
clocked b self out =
    let clock = self.noise_clock ⊕ b.noise_f in
    -- `if self.noise_clock >= 1.0 {`
    let ticks = le (decimal 1 0) clock in
    let noise_clock = cond ticks (clock ⊖ decimal 1 0) clock in
    let draw = get_float self.noise in
    let noise_sample = cond ticks (draw.value ⊖ decimal 5 1) self.noise_sample in
    let noise = cond ticks draw.word self.noise in
    record { sample = out ⊕ b.noisiness ⊗ (noise_sample ⊖ out); next = noises self noise_clock noise_sample noise }

-- `if self.envelope > 0.5 || !two_stage_envelope {`
unfoldable pub decay : Settings → Float → Float
decay b envelope = cond (lt (decimal 5 1) envelope || not b.two_stage_envelope) b.envelope_decay b.cut_decay

-- `s *= if s > 0.0 { 4.0 } else { 0.1 };`
unfoldable pub drive : Float → Float
drive s = s ⊗ cond (lt (decimal 0 0) s) (decimal 4 0) (decimal 1 1)

unfoldable pub swing_vca : Float → Float → Float
swing_vca x gain =
    let s = drive x in
    (s ⊘ (decimal 1 0 ⊕ abs s) ⊕ decimal 1 1) ⊗ gain

abbrev pub linear_vca : Float → Float → Float
linear_vca s gain = s ⊗ gain

unfoldable pub amplify : VcaType → Float → Float → Float
amplify Swing s gain = swing_vca s gain
amplify Linear s gain = linear_vca s gain

-- `sustain_gain.next()` in a sustained block only; what it returns is what the interpolator stores at the end
unfoldable pub amplified : Settings → Hihat → Float → Turn Hihat
amplified b self out =
    let envelope = self.envelope ⊗ decay b self.envelope in
    let next = ParameterInterpolator.next (record { value = self.sustain_gain; increment = b.gain_increment }) in
    let sustain_gain = cond b.sustain next.value self.sustain_gain in
    let gain = cond b.sustain sustain_gain envelope in
    record { sample = amplify b.vca_type out gain; next = gains self envelope sustain_gain }

unfoldable pub set_hpf : Settings → Hihat → Hihat
set_hpf b self = parts self self.square_noise self.noise_coloration_svf (Svf.set_f_q self.hpf b.cutoff (decimal 5 1) Accurate)

unfoldable pub high_passed : Hihat → Float → Turn Hihat
high_passed self out =
    let o = Svf.process self.hpf out HighPass in
    record { sample = o.out; next = parts self self.square_noise self.noise_coloration_svf o.filter }

unfoldable pub passes : Settings → Passed Hihat → Passed Hihat
passes b p =
    -- Render the metallic noise.
    let p₁ = filled (metallic b) p in
    -- Apply BPF on the metallic noise. `out.copy_from_slice(temp_1);`: in place.
    let p₂ = pass colored (setting (set_coloration b) p₁) in
    -- This is not at all part of the 808 circuit! But to add more variety, we add a variable amount of clocked noise to the output of the
    -- 6 schmitt trigger oscillators.
    let p₃ = pass (clocked b) p₂ in
    -- Apply VCA.
    let p₄ = pass (amplified b) p₃ in
    -- `self.hpf.process_buffer(out, temp_1, FilterMode::HighPass);`
    pass high_passed (setting (set_hpf b) p₄)

-- ---- render: the call

-- the number of the first question that is not passed, of `render` and of a run alike; 0 where all are
unfoldable pub run_refusal : Float → Knobs → ℕ → ℕ
run_refusal sample_rate k samples =
    ask (is_sample_rate sample_rate) 1
    (ask (is_block_length samples) 2
    (ask (is_frequency k.f0) 3
    (ask (is_unit k.accent) 4
    (ask (is_unit k.tone) 5
    (ask (is_unit k.decay) 5
    (ask (is_unit k.noisiness) 5 0))))))

abbrev pub render : Hihat → Bool → VcaType → Knobs → List Float → Call Hihat
render self trigger vca_type k out =
    let b = settings self vca_type k (length out) in
    -- `if trigger {`
    let begun = cond trigger (triggered self k.accent k.decay) self in
    let p = passes b (record { state = begun; out = out }) in
    call (run_refusal self.sample_rate k (length out)) p.state p.out self out

-- ---- `render` as two calls (specs/StrikeThenRun.antt): a strike is what stands under `if trigger {`, a run is all else

abbrev pub strike : Hihat → Float → Float → Call Hihat
strike self accent decay = call (strike_refusal self.sample_rate accent decay) (triggered self accent decay) [] self []

abbrev pub run : Hihat → VcaType → Knobs → List Float → Call Hihat
run self vca_type k out =
    let b = settings self vca_type k (length out) in
    let p = passes b (record { state = self; out = out }) in
    call (run_refusal self.sample_rate k (length out)) p.state p.out self out
