-- THE PORT'S OWN, which private contracts alone cite: a turn's code in parts. Definitions only.
use Rattle.std.specs.Prelude.{◌-◌, cond, eqb}
use Rattle.ieee754.specs.Single.{◌⊕◌, ◌⊗◌, decimal}
use Rattle.synthetic_snare_drum.specs.declared.SyntheticSnareDrum.{SyntheticSnareDrum}
use Rattle.synthetic_snare_drum.specs.declared.Settings.{Settings}

-- the voice past `if sustain {` and its `else`, where the drum always decays
unfoldable pub enveloped : SyntheticSnareDrum → Settings → SyntheticSnareDrum
enveloped self b =
    let next = self.sustain_gain ⊕ b.increment in
    let decayed = cond (eqb self.hold_counter 0) (self.snare_amplitude ⊗ b.snare_decay) self.snare_amplitude in
    record {
      sample_rate_hz = self.sample_rate_hz;
      phase = self.phase;
      drum_amplitude = cond b.sustain next (self.drum_amplitude ⊗ b.drum_decay);
      snare_amplitude = cond b.sustain next decayed;
      fm = cond b.sustain (decimal 0 0) (self.fm ⊗ b.fm_decay);
      sustain_gain = cond b.sustain next self.sustain_gain;
      hold_counter = cond b.sustain self.hold_counter (self.hold_counter - 1);
      drum_lp = self.drum_lp;
      snare_hp = self.snare_hp;
      snare_lp = self.snare_lp;
      noise = self.noise;
    }
