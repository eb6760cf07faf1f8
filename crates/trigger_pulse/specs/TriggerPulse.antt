-- The lines that analog_bass_drum.rs (Q39 / Q40) and analog_snare_drum.rs (Q45 / Q46) share. Definitions only.
use Rattle.std.specs.Prelude.{ℕ, zero, suc, cond, eqb, Float}
use Rattle.ieee754.specs.Single.{◌⊖◌, ◌⊗◌, ◌⊘◌, decimal}
use Rattle.trigger_pulse.specs.declared.TriggerPulse.{TriggerPulse}

-- `if self.pulse_remaining_samples != 0`: one less remains, and where that is none, the sample is one lower
unfoldable pub next : ℕ → Float → Float → Float → TriggerPulse
next zero pulse height decay_time = record { remaining_samples = 0; pulse = pulse ⊗ (decimal 1 0 ⊖ decimal 1 0 ⊘ decay_time) }
next (suc n) pulse height decay_time = record { remaining_samples = n; pulse = cond (eqb n 0) (height ⊖ decimal 1 0) height }
