-- THE PORT'S OWN, which private contracts alone cite: what it keeps of a turn once the pulses have come to rest. Definitions only.
use Rattle.std.specs.Prelude.{◌-◌, ◌≡◌, cond, eqb}
use Rattle.std.specs.Float.Ieee.{neg}
use Rattle.ieee754.specs.Single.{◌⊕◌, ◌⊖◌, ◌⊗◌, ◌⊘◌, decimal}
use Rattle.analog_bass_drum.specs.AnalogBassDrum.{diode, step}
use Rattle.analog_bass_drum.specs.declared.AnalogBassDrum.{AnalogBassDrum}
use Rattle.analog_bass_drum.specs.declared.Settings.{Settings}
use Rattle.analog_bass_drum.specs.declared.FmPulse.{FmPulse}
use Rattle.analog_bass_drum.specs.declared.Excitation.{Excitation}

-- the pulse on the frequency, and what the turn writes with it
unfoldable pub fm_pulse : AnalogBassDrum → FmPulse
fm_pulse v =
    let ended = eqb v.fm_pulse_remaining_samples 0 in
    let remaining = v.fm_pulse_remaining_samples - 1 in
    let begun = cond (eqb remaining 0) (neg (decimal 8 1)) (decimal 0 0) in
    let decayed = v.retrig_pulse ⊗ (decimal 1 0 ⊖ decimal 1 0 ⊘ v.retrig_pulse_duration) in
    record {
      remaining_samples = remaining;
      fm_pulse = cond ended (decimal 0 0) (decimal 1 0);
      retrig_pulse = cond ended decayed begun;
    }

-- the pulses and their low-passes as the turn leaves them, and what it makes of these alone: the pulse past the diode, its leak into the tone
-- filter, and `1.0 + attack_fm`
unfoldable pub excitation : Settings → AnalogBassDrum → Excitation
excitation b v =
    let next = (step b v).next in
    let rectified = diode ((next.pulse ⊖ next.pulse_lp) ⊕ next.pulse ⊗ decimal 44 3) in
    record {
      pulse_remaining_samples = next.pulse_remaining_samples;
      fm_pulse_remaining_samples = next.fm_pulse_remaining_samples;
      pulse = next.pulse;
      pulse_lp = next.pulse_lp;
      fm_pulse_lp = next.fm_pulse_lp;
      rectified = rectified;
      leak = rectified ⊗ b.exciter_leak;
      attack = decimal 1 0 ⊕ next.fm_pulse_lp ⊗ decimal 17 1 ⊗ b.attack_fm_amount;
    }

-- e leaves the pulses and their low-passes as they are in v
pub record AtRest (v : AnalogBassDrum) (e : Excitation) : Type 0 where
  pub remaining : e.pulse_remaining_samples ≡ v.pulse_remaining_samples
  pub fm_remaining : e.fm_pulse_remaining_samples ≡ v.fm_pulse_remaining_samples
  pub pulse : e.pulse ≡ v.pulse
  pub lp : e.pulse_lp ≡ v.pulse_lp
  pub fm_lp : e.fm_pulse_lp ≡ v.fm_pulse_lp
