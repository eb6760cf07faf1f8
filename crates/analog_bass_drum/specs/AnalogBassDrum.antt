-- drums/analog_bass_drum.rs, statement by statement, for `sustain` false. Definitions only.
use Rattle.std.specs.Prelude.{ℕ, ◌-◌, Bool, cond, List, [], eqb, length, Float}
use Rattle.std.specs.Float.Ieee.{neg, le, to_unsigned}
use Rattle.ieee754.specs.Single.{◌⊕◌, ◌⊖◌, ◌⊗◌, ◌⊘◌, decimal}
use Rattle.ieee754.specs.Operations.{abs, minimum_number, clamp}
use Rattle.block.specs.declared.Turn.{Turn}
use Rattle.block.specs.Block.{samples, after}
use Rattle.refusal.specs.Refusal.{Call, call, ask, is_sample_rate, is_block_length, is_frequency, is_unit, is_bass_decay}
use Rattle.units.specs.Units.{ratio}
use Rattle.utils.specs.Utils.{one_pole}
use Rattle.filter.specs.Svf as Filter
use Rattle.filter.specs.declared.Svf.{Svf}
use Rattle.filter.specs.declared.FilterMode.TheVariants.{BandPass, LowPass}
use Rattle.filter.specs.declared.FrequencyApproximation.TheVariants.{Dirty}
use Rattle.trigger_pulse.specs.TriggerPulse as TriggerPulse
use Rattle.analog_bass_drum.specs.declared.AnalogBassDrum.{AnalogBassDrum}
use Rattle.analog_bass_drum.specs.declared.Knobs.{Knobs}
use Rattle.analog_bass_drum.specs.declared.Settings.{Settings}

-- ---- init

-- the voice with this resonator and the constants of this rate, every other field zero
abbrev pub silent : Svf → Float → AnalogBassDrum
silent resonator sample_rate_hz =
    record {
      pulse_remaining_samples = 0;
      fm_pulse_remaining_samples = 0;
      pulse = decimal 0 0;
      pulse_height = decimal 0 0;
      pulse_lp = decimal 0 0;
      fm_pulse_lp = decimal 0 0;
      retrig_pulse = decimal 0 0;
      lp_out = decimal 0 0;
      tone_lp = decimal 0 0;
      resonator = resonator;
      trigger_pulse_duration = to_unsigned 32 (decimal 1 3 ⊗ sample_rate_hz);
      fm_pulse_duration = to_unsigned 32 (decimal 6 3 ⊗ sample_rate_hz);
      pulse_decay_time = decimal 2 4 ⊗ sample_rate_hz;
      pulse_filter_time = decimal 1 4 ⊗ sample_rate_hz;
      retrig_pulse_duration = decimal 5 2 ⊗ sample_rate_hz;
    }

-- at a rate of 0.0 the constants are zero too
unfoldable pub ZERO : AnalogBassDrum
ZERO = silent Filter.ZERO (decimal 0 0)

unfoldable pub initialized : AnalogBassDrum → Float → AnalogBassDrum
initialized self sample_rate_hz = silent (Filter.init self.resonator) sample_rate_hz

abbrev pub init : AnalogBassDrum → Float → Call AnalogBassDrum
init self sample_rate_hz = call (ask (is_sample_rate sample_rate_hz) 1 0) (initialized self sample_rate_hz) [] self []

-- ---- render: what stands under `if trigger {`, the lines before the loop, one turn of it, and the call

unfoldable pub triggered : AnalogBassDrum → Float → AnalogBassDrum
triggered self accent =
    record {
      pulse_remaining_samples = self.trigger_pulse_duration;
      fm_pulse_remaining_samples = self.fm_pulse_duration;
      pulse = self.pulse;
      pulse_height = decimal 3 0 ⊕ decimal 7 0 ⊗ accent;
      pulse_lp = self.pulse_lp;
      fm_pulse_lp = self.fm_pulse_lp;
      retrig_pulse = self.retrig_pulse;
      lp_out = decimal 0 0;
      tone_lp = self.tone_lp;
      resonator = self.resonator;
      trigger_pulse_duration = self.trigger_pulse_duration;
      fm_pulse_duration = self.fm_pulse_duration;
      pulse_decay_time = self.pulse_decay_time;
      pulse_filter_time = self.pulse_filter_time;
      retrig_pulse_duration = self.retrig_pulse_duration;
    }

unfoldable pub settings : Knobs → Settings
settings k =
    record {
      f0 = k.f0;
      scale = decimal 1 3 ⊘ k.f0;
      q = decimal 1500 0 ⊗ ratio (k.decay ⊗ decimal 80 0);
      tone_f = minimum_number (decimal 4 0 ⊗ k.f0 ⊗ ratio (k.tone ⊗ decimal 108 0)) (decimal 1 0);
      exciter_leak = decimal 8 2 ⊗ (k.tone ⊕ decimal 25 2);
      attack_fm_amount = k.attack_fm_amount;
      self_fm_amount = k.self_fm_amount;
    }

unfoldable pub diode : Float → Float
diode x =
    let y = x ⊗ decimal 2 0 in
    cond (le (decimal 0 0) x) x (decimal 7 1 ⊗ y ⊘ (decimal 1 0 ⊕ abs y))

-- one turn of the loop; b is what stays the same over the block. What the Rust writes to a field has the field's name here; the field
-- `self.pulse` is that of p, since `let mut pulse` is the Rust's local variable
unfoldable pub step : Settings → AnalogBassDrum → Turn AnalogBassDrum
step b self =
    -- Q39 / Q40
    let p = TriggerPulse.next self.pulse_remaining_samples self.pulse self.pulse_height self.pulse_decay_time in
    -- C40 / R163 / R162 / D83
    let pulse_lp = one_pole self.pulse_lp p.pulse (decimal 1 0 ⊘ self.pulse_filter_time) in
    let pulse = diode ((p.pulse ⊖ pulse_lp) ⊕ p.pulse ⊗ decimal 44 3) in
    -- Q41 / Q42: `if self.fm_pulse_remaining_samples != 0 {`, and `self.fm_pulse_remaining_samples -= 1;`, which leaves a 0 here as it is
    let ended = eqb self.fm_pulse_remaining_samples 0 in
    let fm_pulse_remaining_samples = self.fm_pulse_remaining_samples - 1 in
    let fm_pulse = cond ended (decimal 0 0) (decimal 1 0) in
    -- C39 / C52, and past the `else` C39 / R161
    let begun = cond (eqb fm_pulse_remaining_samples 0) (neg (decimal 8 1)) (decimal 0 0) in
    let decayed = self.retrig_pulse ⊗ (decimal 1 0 ⊖ decimal 1 0 ⊘ self.retrig_pulse_duration) in
    let retrig_pulse = cond ended decayed begun in
    let fm_pulse_lp = one_pole self.fm_pulse_lp fm_pulse (decimal 1 0 ⊘ self.pulse_filter_time) in
    -- Q43 and R170 leakage
    let punch = decimal 7 1 ⊕ diode (decimal 10 0 ⊗ self.lp_out ⊖ decimal 1 0) in
    -- Q43 / R165
    let attack_fm = fm_pulse_lp ⊗ decimal 17 1 ⊗ b.attack_fm_amount in
    let self_fm = punch ⊗ decimal 8 2 ⊗ b.self_fm_amount in
    let f = clamp (b.f0 ⊗ (decimal 1 0 ⊕ attack_fm ⊕ self_fm)) (decimal 0 0) (decimal 4 1) in
    let tuned = Filter.set_f_q self.resonator f (decimal 1 0 ⊕ b.q ⊗ f) Dirty in
    let dual = Filter.process_dual tuned ((pulse ⊖ retrig_pulse ⊗ decimal 2 1) ⊗ b.scale) BandPass LowPass in
    let resonator_out = dual.out_1 in
    let lp_out = dual.out_2 in
    let tone_lp = one_pole self.tone_lp (pulse ⊗ b.exciter_leak ⊕ resonator_out) b.tone_f in
    record {
      sample = tone_lp;
      next = record {
        pulse_remaining_samples = p.remaining_samples;
        fm_pulse_remaining_samples = fm_pulse_remaining_samples;
        pulse = p.pulse;
        pulse_height = self.pulse_height;
        pulse_lp = pulse_lp;
        fm_pulse_lp = fm_pulse_lp;
        retrig_pulse = retrig_pulse;
        lp_out = lp_out;
        tone_lp = tone_lp;
        resonator = dual.filter;
        trigger_pulse_duration = self.trigger_pulse_duration;
        fm_pulse_duration = self.fm_pulse_duration;
        pulse_decay_time = self.pulse_decay_time;
        pulse_filter_time = self.pulse_filter_time;
        retrig_pulse_duration = self.retrig_pulse_duration;
      };
    }

-- the questions of the other knobs
unfoldable pub knobs_refusal : Knobs → ℕ
knobs_refusal k =
    ask (is_unit k.tone) 5
    (ask (is_bass_decay k.decay) 5
    (ask (is_unit k.attack_fm_amount) 5
    (ask (is_unit k.self_fm_amount) 5 0)))

-- the number of the first question that is not passed; 0 where all are
unfoldable pub render_refusal : Float → Knobs → ℕ → ℕ
render_refusal accent k samples =
    ask (is_block_length samples) 2
    (ask (is_frequency k.f0) 3
    (ask (is_unit accent) 4 (knobs_refusal k)))

abbrev pub render : AnalogBassDrum → Bool → Float → Knobs → List Float → Call AnalogBassDrum
render self trigger accent k out =
    let turn = step (settings k) in
    let n = length out in
    let voice = cond trigger (triggered self accent) self in
    call (render_refusal accent k n) (after turn n voice) (samples turn n voice) self out

-- ---- `render` as two calls (specs/StrikeThenRun.antt): a strike is what stands under `if trigger {`, a run is all else

abbrev pub strike : AnalogBassDrum → Float → Call AnalogBassDrum
strike self accent = call (ask (is_unit accent) 4 0) (triggered self accent) [] self []

unfoldable pub run_refusal : Knobs → ℕ → ℕ
run_refusal k samples = ask (is_block_length samples) 2 (ask (is_frequency k.f0) 3 (knobs_refusal k))

abbrev pub run : AnalogBassDrum → Knobs → List Float → Call AnalogBassDrum
run self k out =
    let turn = step (settings k) in
    let n = length out in
    call (run_refusal k n) (after turn n self) (samples turn n self) self out
