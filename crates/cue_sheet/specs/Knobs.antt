-- THE PORT'S OWN, which private contracts alone cite: the knobs of a cue that have passed their questions. Definitions only.
use Rattle.std.specs.Prelude.{◌≡◌, Bool, true, Float}
use Rattle.refusal.specs.Refusal.{is_frequency, is_unit, is_bass_decay}
use Rattle.cue_sheet.specs.declared.line.Cue.{Cue}
use Rattle.cue_sheet.specs.declared.line.Cue.TheVariants.{Bass, Snare, SyntheticSnare, Hihat}

-- `decays` is the question of decay
pub record KnobsIn (decays : Float → Bool) (accent f0 a decay c : Float) : Type 0 where
  pub frequency : is_frequency f0 ≡ true
  pub accent_in : is_unit accent ≡ true
  pub a_in : is_unit a ≡ true
  pub decay_in : decays decay ≡ true
  pub c_in : is_unit c ≡ true

abbrev pub KnobsOf : Cue → Type 0
KnobsOf (Bass accent f0 tone decay attack_fm_amount) = KnobsIn is_bass_decay accent f0 tone decay attack_fm_amount
KnobsOf (Snare accent f0 tone decay snappy) = KnobsIn is_unit accent f0 tone decay snappy
KnobsOf (SyntheticSnare accent f0 fm_amount decay snappy) = KnobsIn is_unit accent f0 fm_amount decay snappy
KnobsOf (Hihat accent f0 tone decay noisiness) = KnobsIn is_unit accent f0 tone decay noisiness
