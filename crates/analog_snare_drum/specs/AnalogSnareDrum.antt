-- drums/analog_snare_drum.rs, statement by statement, for `sustain` false. Definitions only.
use Rattle.std.specs.Prelude.{ℕ, Bool, cond, List, [], ◌∷◌, eqb, pos, length, get_or, Float}
use Rattle.std.specs.Float.{nan, binary32}
use Rattle.std.specs.Float.Ieee.{neg, lt, of_int, to_unsigned}
use Rattle.ieee754.specs.Single.{◌⊕◌, ◌⊖◌, ◌⊗◌, decimal}
use Rattle.ieee754.specs.Operations.{minimum_number, clamp}
use Rattle.block.specs.declared.Turn.{Turn}
use Rattle.block.specs.Block.{samples, after}
use Rattle.refusal.specs.Refusal.{Call, call, ask, is_sample_rate, is_block_length, is_frequency, is_unit}
use Rattle.random.specs.Random.{get_float}
use Rattle.units.specs.Units.{ratio}
use Rattle.utils.specs.Utils.{one_pole, soft_clip}
use Rattle.filter.specs.Svf as Filter
use Rattle.filter.specs.declared.Svf.{Svf}
use Rattle.filter.specs.declared.FilterMode.TheVariants.{BandPass}
use Rattle.filter.specs.declared.FrequencyApproximation.TheVariants.{Fast}
use Rattle.trigger_pulse.specs.TriggerPulse as TriggerPulse
use Rattle.analog_snare_drum.specs.declared.AnalogSnareDrum.{AnalogSnareDrum}
use Rattle.analog_snare_drum.specs.declared.Knobs.{Knobs}
use Rattle.analog_snare_drum.specs.declared.Settings.{Settings}
use Rattle.analog_snare_drum.specs.declared.ModeOutput.{ModeOutput}
use Rattle.analog_snare_drum.specs.declared.ShellOutput.{ShellOutput}

-- `for i in 0..NUM_MODES`: an entry for each mode
abbrev pub modes : {A : Type 0} → (ℕ → A) → List A
modes f = f 0 ∷ f 1 ∷ f 2 ∷ f 3 ∷ f 4 ∷ []

-- `self.resonator[i]`; what stands in for a filter past the end is not read, since the list has five
abbrev pub filter_of : List Svf → ℕ → Svf
filter_of resonator i = get_or resonator i (record { g = nan; r = nan; h = nan; state_1 = nan; state_2 = nan })

-- ---- init

-- the voice with these filters, these constants and this noise state, every other field zero
abbrev pub silent : List Svf → Svf → ℕ → ℕ → ℕ → AnalogSnareDrum
silent resonator noise_filter trigger_pulse_duration pulse_decay_time noise =
    record {
      pulse_remaining_samples = 0;
      pulse = decimal 0 0;
      pulse_height = decimal 0 0;
      pulse_lp = decimal 0 0;
      noise_envelope = decimal 0 0;
      resonator = resonator;
      noise_filter = noise_filter;
      trigger_pulse_duration = trigger_pulse_duration;
      pulse_decay_time = pulse_decay_time;
      noise = noise;
    }

unfoldable pub ZERO : AnalogSnareDrum
ZERO = silent (modes (λ i. Filter.ZERO)) Filter.ZERO 0 0 0

-- 33 is the first state of the noise, `static RNG_STATE: AtomicU32 = AtomicU32::new(0x21);`, here one for each voice
unfoldable pub initialized : AnalogSnareDrum → Float → AnalogSnareDrum
initialized self sample_rate_hz =
    silent (modes (λ i. Filter.init (filter_of self.resonator i))) (Filter.init self.noise_filter)
    (to_unsigned 32 (decimal 1 3 ⊗ sample_rate_hz)) (to_unsigned 32 (decimal 1 4 ⊗ sample_rate_hz)) 33

abbrev pub init : AnalogSnareDrum → Float → Call AnalogSnareDrum
init self sample_rate_hz = call (ask (is_sample_rate sample_rate_hz) 1 0) (initialized self sample_rate_hz) [] self []

-- ---- render: the lines before the loop, one turn of it, and the call

-- from the third mode on, `*v = tone; tone *= tone;`: the tone, its square and the square of that
unfoldable pub gains : Float → List Float
gains tone =
    cond (lt tone (decimal 666667 6))
    (let t = tone ⊗ decimal 15 1 in
    decimal 15 1 ⊕ (decimal 1 0 ⊖ t) ⊗ (decimal 1 0 ⊖ t) ⊗ decimal 45 1
    ∷ decimal 2 0 ⊗ t ⊕ decimal 15 2
    ∷ decimal 0 0 ∷ decimal 0 0 ∷ decimal 0 0 ∷ [])
    (let t = (tone ⊖ decimal 666667 6) ⊗ decimal 3 0 in
    let t² = t ⊗ t in
    let t⁴ = t² ⊗ t² in
    decimal 15 1 ⊖ t ⊗ decimal 5 1
    ∷ decimal 215 2 ⊖ t ⊗ decimal 7 1
    ∷ t ∷ t² ∷ t⁴ ∷ [])

-- the decay and the leak read the knob snappy as it is, all lines after them as it is clamped
unfoldable pub settings : Knobs → Settings
settings k =
    let decay_xt = k.decay ⊗ (decimal 1 0 ⊕ k.decay ⊗ (k.decay ⊖ decimal 1 0)) in
    record {
      q = decimal 2000 0 ⊗ ratio (decay_xt ⊗ decimal 84 0);
      noise_envelope_decay = decimal 1 0 ⊖ decimal 17 4 ⊗ ratio (neg k.decay ⊗ (decimal 50 0 ⊕ k.snappy ⊗ decimal 10 0));
      exciter_leak = k.snappy ⊗ (decimal 2 0 ⊖ k.snappy) ⊗ decimal 1 1;
      snappy = clamp (k.snappy ⊗ decimal 11 1 ⊖ decimal 5 2) (decimal 0 0) (decimal 1 0);
      f0 = k.f0;
      gain = gains k.tone;
    }

-- what stands under `if trigger {`
unfoldable pub triggered : AnalogSnareDrum → Float → AnalogSnareDrum
triggered self accent =
    record {
      pulse_remaining_samples = self.trigger_pulse_duration;
      pulse = self.pulse;
      pulse_height = decimal 3 0 ⊕ decimal 7 0 ⊗ accent;
      pulse_lp = self.pulse_lp;
      noise_envelope = decimal 2 0;
      resonator = self.resonator;
      noise_filter = self.noise_filter;
      trigger_pulse_duration = self.trigger_pulse_duration;
      pulse_decay_time = self.pulse_decay_time;
      noise = self.noise;
    }

unfoldable pub MODE_FREQUENCIES : List Float
MODE_FREQUENCIES = decimal 1 0 ∷ decimal 2 0 ∷ decimal 318 2 ∷ decimal 416 2 ∷ decimal 562 2 ∷ []

unfoldable pub tuned_mode : Svf → Float → Float → Float → Svf
tuned_mode resonator f0 mode_frequency q =
    let f = minimum_number (f0 ⊗ mode_frequency) (decimal 499 3) in
    Filter.set_f_q resonator f (decimal 1 0 ⊕ f ⊗ q) Fast

abbrev pub tuned_modes : List Svf → Float → Float → List Svf
tuned_modes resonator f0 q =
    -- `if i == 0 { q } else { q * 0.25 }`
    let own : ℕ → Float = λ i. cond (eqb i 0) q (q ⊗ decimal 25 2) in
    modes (λ i. tuned_mode (filter_of resonator i) f0 (get_or MODE_FREQUENCIES i nan) (own i))

-- the filters are set also where the block is empty
unfoldable pub tuned : Settings → AnalogSnareDrum → AnalogSnareDrum
tuned b self =
    let f_noise = clamp (b.f0 ⊗ decimal 16 0) (decimal 0 0) (decimal 499 3) in
    record {
      pulse_remaining_samples = self.pulse_remaining_samples;
      pulse = self.pulse;
      pulse_height = self.pulse_height;
      pulse_lp = self.pulse_lp;
      noise_envelope = self.noise_envelope;
      resonator = tuned_modes self.resonator b.f0 b.q;
      noise_filter = Filter.set_f_q self.noise_filter f_noise (decimal 1 0 ⊕ f_noise ⊗ decimal 15 1) Fast;
      trigger_pulse_duration = self.trigger_pulse_duration;
      pulse_decay_time = self.pulse_decay_time;
      noise = self.noise;
    }

-- one turn of the loop over the modes: the resonator, and `shell += gain[i]` times what it gives
unfoldable pub mode_output : Float → Float → Svf → Float → Float → ModeOutput
mode_output shell gain resonator excitation exciter_leak =
    let o = Filter.process resonator excitation BandPass in
    record { resonator = o.filter; shell = shell ⊕ gain ⊗ (o.out ⊕ excitation ⊗ exciter_leak) }

-- `let mut shell = 0.0;`, and all modes, the first under an excitation of its own; then `shell = soft_clip(shell);`
unfoldable pub shell_output : Settings → List Svf → Float → Float → ShellOutput
shell_output b resonator first other =
    let mode : ℕ → Float → Float → ModeOutput =
    (λ i excitation shell. mode_output shell (get_or b.gain i nan) (filter_of resonator i) excitation b.exciter_leak) in
    let m₀ = mode 0 first (decimal 0 0) in
    let m₁ = mode 1 other m₀.shell in
    let m₂ = mode 2 other m₁.shell in
    let m₃ = mode 3 other m₂.shell in
    let m₄ = mode 4 other m₃.shell in
    record { resonator = m₀.resonator ∷ m₁.resonator ∷ m₂.resonator ∷ m₃.resonator ∷ m₄.resonator ∷ []; shell = soft_clip m₄.shell }

-- one turn of the loop; b is what stays the same over the block. The field noise is the state that is drawn from, since `let mut noise` is the
-- Rust's local variable
unfoldable pub step : Settings → AnalogSnareDrum → Turn AnalogSnareDrum
step b self =
    -- Q45 / Q46
    let pulse_decay_time = of_int binary32 (pos self.pulse_decay_time) in
    let p = TriggerPulse.next self.pulse_remaining_samples self.pulse self.pulse_height pulse_decay_time in
    let pulse = p.pulse in
    -- R189 / C57 / R190 + C58 / C59 / R197 / R196 / IC14
    let pulse_lp = one_pole self.pulse_lp pulse (decimal 75 2) in
    let shell = shell_output b self.resonator ((pulse ⊖ pulse_lp) ⊕ decimal 6 3 ⊗ pulse) (decimal 26 3 ⊗ pulse) in
    -- C56 / R194 / Q48 / C54 / R188 / D54: `if noise < 0.0 {` it is 0.0
    let draw = get_float self.noise in
    let drawn = decimal 2 0 ⊗ draw.value ⊖ decimal 1 0 in
    let noise = cond (lt drawn (decimal 0 0)) (decimal 0 0) drawn in
    let noise_envelope = self.noise_envelope ⊗ b.noise_envelope_decay in
    -- C66 / R201 / C67 / R202 / R203 / Q49
    let filtered = Filter.process self.noise_filter (noise ⊗ (noise_envelope ⊗ b.snappy ⊗ decimal 2 0)) BandPass in
    -- IC13
    record {
      sample = filtered.out ⊕ shell.shell ⊗ (decimal 1 0 ⊖ b.snappy);
      next = record {
        pulse_remaining_samples = p.remaining_samples;
        pulse = pulse;
        pulse_height = self.pulse_height;
        pulse_lp = pulse_lp;
        noise_envelope = noise_envelope;
        resonator = shell.resonator;
        noise_filter = filtered.filter;
        trigger_pulse_duration = self.trigger_pulse_duration;
        pulse_decay_time = self.pulse_decay_time;
        noise = draw.word;
      };
    }

-- the questions of the other knobs
unfoldable pub knobs_refusal : Knobs → ℕ
knobs_refusal k =
    ask (is_unit k.tone) 5
    (ask (is_unit k.decay) 5
    (ask (is_unit k.snappy) 5 0))

-- the number of the first question that is not passed; 0 where all are
unfoldable pub render_refusal : Float → Knobs → ℕ → ℕ
render_refusal accent k samples =
    ask (is_block_length samples) 2
    (ask (is_frequency k.f0) 3
    (ask (is_unit accent) 4 (knobs_refusal k)))

abbrev pub render : AnalogSnareDrum → Bool → Float → Knobs → List Float → Call AnalogSnareDrum
render self trigger accent k out =
    let b = settings k in
    let n = length out in
    let voice = tuned b (cond trigger (triggered self accent) self) in
    call (render_refusal accent k n) (after (step b) n voice) (samples (step b) n voice) self out

-- ---- `render` as two calls (specs/StrikeThenRun.antt): a strike is what stands under `if trigger {`, a run is all else

abbrev pub strike : AnalogSnareDrum → Float → Call AnalogSnareDrum
strike self accent = call (ask (is_unit accent) 4 0) (triggered self accent) [] self []

unfoldable pub run_refusal : Knobs → ℕ → ℕ
run_refusal k samples = ask (is_block_length samples) 2 (ask (is_frequency k.f0) 3 (knobs_refusal k))

abbrev pub run : AnalogSnareDrum → Knobs → List Float → Call AnalogSnareDrum
run self k out =
    let b = settings k in
    let n = length out in
    let voice = tuned b self in
    call (run_refusal k n) (after (step b) n voice) (samples (step b) n voice) self out
