-- An excitation at rest is that of the next turn too, so it is right to keep it.
use mathlib.Core.Path.{◌≡◌, refl, sym, ◌∙◌}
use mathlib.Core.Bool.{Bool, true}
use Rattle.analog_snare_drum.specs.declared.AnalogSnareDrum.{AnalogSnareDrum}
use Rattle.analog_snare_drum.specs.declared.Excitation.{Excitation}
use Rattle.analog_snare_drum.specs.declared.Settings.{Settings}
use Rattle.analog_snare_drum.specs.AnalogSnareDrum.{step}
use Rattle.analog_snare_drum.specs.Excitation.{excitation, AtRest}

-- what the loop knows of e and of its flag
pub record Kept (v : AnalogSnareDrum) (e : Excitation) (flag : Bool) : Type 0 where
  pub current : e ≡ excitation v
  pub rest : flag ≡ true → AtRest v e

pub kept : (b : Settings) (v : AnalogSnareDrum) (e : Excitation) (flag : Bool) → flag ≡ true → Kept v e flag → Kept (step b v).next e flag
unfolding excitation step
kept b v e flag h k =
    let known = k.current in
    let r : AtRest v (excitation v) = rw known at (k.rest h) in
    let lp = rw r.pulse at r.lp in
    let again : excitation (step b v).next ≡ excitation v = simp (r.remaining, r.pulse, lp) in
    record { current = known ∙ sym again; rest = λ _. rw known record { remaining = refl; pulse = refl; lp = refl } }
