-- drums/synthetic_bass_drum.rs: `SyntheticBassDrumAttackNoise`. Definitions only.
use Rattle.std.specs.Prelude.{ℕ}
use Rattle.ieee754.specs.Single.{◌⊖◌, decimal}
use Rattle.random.specs.Random.{get_float}
use Rattle.utils.specs.Utils.{one_pole}
use Rattle.synthetic_bass_drum.specs.declared.SyntheticBassDrumAttackNoise.{SyntheticBassDrumAttackNoise}
use Rattle.synthetic_bass_drum.specs.declared.SyntheticBassDrumAttackNoiseOutput.{SyntheticBassDrumAttackNoiseOutput}

-- the record of zeros, which is what `init` writes
abbrev pub init : SyntheticBassDrumAttackNoise
init = record { lp = decimal 0 0; hp = decimal 0 0 }

-- noise is the state of the generator, which the Rust's `random::get_float()` has in a static
unfoldable pub render : SyntheticBassDrumAttackNoise → ℕ → SyntheticBassDrumAttackNoiseOutput
render self noise =
    let sample = get_float noise in
    let lp = one_pole self.lp sample.value (decimal 5 2) in
    let hp = one_pole self.hp lp (decimal 5 3) in
    record { attack_noise = record { lp = lp; hp = hp }; noise = sample.word; out = lp ⊖ hp }
