-- THE PORT'S OWN, which private contracts alone cite: what it keeps of a turn once the pulse has come to rest. Definitions only.
use Rattle.std.specs.Prelude.{◌≡◌, pos}
use Rattle.std.specs.Float.{binary32}
use Rattle.std.specs.Float.Ieee.{of_int}
use Rattle.ieee754.specs.Single.{◌⊕◌, ◌⊖◌, ◌⊗◌, decimal}
use Rattle.utils.specs.Utils.{one_pole}
use Rattle.trigger_pulse.specs.TriggerPulse as TriggerPulse
use Rattle.analog_snare_drum.specs.declared.AnalogSnareDrum.{AnalogSnareDrum}
use Rattle.analog_snare_drum.specs.declared.Excitation.{Excitation}

-- the pulse and its low-pass as the turn leaves them, and the excitation of the first mode and of the others
unfoldable pub excitation : AnalogSnareDrum → Excitation
excitation v =
    let p = TriggerPulse.next v.pulse_remaining_samples v.pulse v.pulse_height (of_int binary32 (pos v.pulse_decay_time)) in
    let pulse_lp = one_pole v.pulse_lp p.pulse (decimal 75 2) in
    record {
      remaining_samples = p.remaining_samples;
      pulse = p.pulse;
      pulse_lp = pulse_lp;
      first = (p.pulse ⊖ pulse_lp) ⊕ decimal 6 3 ⊗ p.pulse;
      other = decimal 26 3 ⊗ p.pulse;
    }

-- e leaves the pulse and its low-pass as they are in v
pub record AtRest (v : AnalogSnareDrum) (e : Excitation) : Type 0 where
  pub remaining : e.remaining_samples ≡ v.pulse_remaining_samples
  pub pulse : e.pulse ≡ v.pulse
  pub lp : e.pulse_lp ≡ v.pulse_lp
