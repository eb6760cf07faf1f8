-- The block form: click plus hiss, which in the Rust is `transient`, the sum that `SyntheticBassDrum` makes at each turn that does not sustain. Definitions only.
use Rattle.std.specs.Prelude.{ℕ, ◌-◌, min, List, [], ◌++◌, length, replicate, Float}
use Rattle.ieee754.specs.Single.{◌⊕◌, decimal}
use Rattle.block.specs.declared.Turn.{Turn}
use Rattle.block.specs.Block.{scan, scanned}
use Rattle.refusal.specs.Refusal.{Call, call, ask, is_block_length}
use Rattle.synthetic_bass_drum.specs.Click as Click
use Rattle.synthetic_bass_drum.specs.AttackNoise as AttackNoise
use Rattle.synthetic_bass_drum.specs.declared.SyntheticBassDrumTransient.{SyntheticBassDrumTransient}

unfoldable pub ZERO : SyntheticBassDrumTransient
ZERO = record { click = Click.ZERO; attack_noise = AttackNoise.init; noise = 0 }

-- `self.click.init(sample_rate_hz); self.noise.init();`; 33 is the first state of the noise, `static RNG_STATE: AtomicU32 = AtomicU32::new(0x21);`
abbrev pub init : SyntheticBassDrumTransient → Float → Call SyntheticBassDrumTransient
init self sample_rate_hz =
    let click = Click.init self.click sample_rate_hz in
    call click.number (record { click = click.state; attack_noise = AttackNoise.init; noise = 33 }) [] self []

-- `let transient = self.click.process(` of what the click is fed, `) + self.noise.render();`
unfoldable pub turn : SyntheticBassDrumTransient → Float → Turn SyntheticBassDrumTransient
turn self in_ =
    let click = Click.process self.click in_ in
    let hiss = AttackNoise.render self.attack_noise self.noise in
    record {
      sample = click.out ⊕ hiss.out;
      next = record { click = click.click; attack_noise = hiss.attack_noise; noise = hiss.noise };
    }

-- what the click is fed in a block of size samples: 0.0 for its first n samples and 1.0 afterwards
unfoldable pub fed : ℕ → ℕ → List Float
fed n size = replicate (min n size) (decimal 0 0) ++ replicate (size - n) (decimal 1 0)

-- only the block's length is asked: no turn reads the rate that the click stores
abbrev pub render : SyntheticBassDrumTransient → ℕ → List Float → Call SyntheticBassDrumTransient
render self n out =
    let inputs = fed n (length out) in
    call (ask (is_block_length (length out)) 2 0) (scanned turn self inputs) (scan turn self inputs) self out
