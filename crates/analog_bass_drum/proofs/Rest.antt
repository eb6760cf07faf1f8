-- An excitation at rest is that of the next turn too, so it is right to keep it.
use mathlib.Core.Path.{◌≡◌, refl, sym, ◌∙◌}
use Rattle.analog_bass_drum.specs.AnalogBassDrum.{step}
use Rattle.analog_bass_drum.specs.Excitation.{excitation, AtRest}
use Rattle.analog_bass_drum.specs.declared.AnalogBassDrum.{AnalogBassDrum}
use Rattle.analog_bass_drum.specs.declared.Settings.{Settings}
use Rattle.analog_bass_drum.specs.declared.Excitation.{Excitation}

-- `*out_sample = self.tone_lp`
pub sample_is : (b : Settings) (v : AnalogBassDrum) → (step b v).next.tone_lp ≡ (step b v).sample
unfolding step
sample_is b v = refl

-- e is the excitation of the turn from v, and leaves the pulses as they are
pub record Kept (b : Settings) (v : AnalogBassDrum) (e : Excitation) : Type 0 where
  pub current : e ≡ excitation b v
  pub rest : AtRest v e

pub kept : (b : Settings) (v : AnalogBassDrum) (e : Excitation) → Kept b v e → Kept b (step b v).next e
unfolding excitation step
kept b v e k =
    let known = k.current in
    let r : AtRest v (excitation b v) = rw known at k.rest in
    let lp = rw r.pulse at r.lp in
    let again : excitation b (step b v).next ≡ excitation b v = simp (r.remaining, r.fm_remaining, r.pulse, lp, r.fm_lp) in
    record { current = known ∙ sym again; rest = rw known record { remaining = refl; fm_remaining = refl; pulse = refl; lp = refl; fm_lp = refl } }
