-- drums/synthetic_bass_drum.rs: `SyntheticBassDrumClick`. Definitions only.
use Rattle.std.specs.Prelude.{[], Float}
use Rattle.ieee754.specs.Single.{◌⊖◌, ◌⊘◌, decimal}
use Rattle.refusal.specs.Refusal.{Call, call, ask, is_sample_rate}
use Rattle.utils.specs.Utils.{one_pole, slope}
use Rattle.filter.specs.Svf as Svf
use Rattle.filter.specs.declared.FilterMode.TheVariants.{LowPass}
use Rattle.filter.specs.declared.FrequencyApproximation.TheVariants.{Fast}
use Rattle.synthetic_bass_drum.specs.declared.SyntheticBassDrumClick.{SyntheticBassDrumClick}
use Rattle.synthetic_bass_drum.specs.declared.SyntheticBassDrumClickOutput.{SyntheticBassDrumClickOutput}

unfoldable pub ZERO : SyntheticBassDrumClick
ZERO = record { sample_rate_hz = decimal 0 0; lp = decimal 0 0; hp = decimal 0 0; filter = Svf.ZERO }

unfoldable pub initialized : SyntheticBassDrumClick → Float → SyntheticBassDrumClick
initialized self sample_rate_hz =
    let filter = Svf.init self.filter in
    record {
      sample_rate_hz = sample_rate_hz;
      lp = decimal 0 0;
      hp = decimal 0 0;
      filter = Svf.set_f_q filter (decimal 5000 0 ⊘ sample_rate_hz) (decimal 2 0) Fast;
    }

abbrev pub init : SyntheticBassDrumClick → Float → Call SyntheticBassDrumClick
init self sample_rate_hz = call (ask (is_sample_rate sample_rate_hz) 1 0) (initialized self sample_rate_hz) [] self []

unfoldable pub process : SyntheticBassDrumClick → Float → SyntheticBassDrumClickOutput
process self in_ =
    let lp = slope self.lp in_ (decimal 5 1) (decimal 1 1) in
    let hp = one_pole self.hp lp (decimal 4 2) in
    let low = Svf.process self.filter (lp ⊖ hp) LowPass in
    record {
      click = record { sample_rate_hz = self.sample_rate_hz; lp = lp; hp = hp; filter = low.filter };
      out = low.out;
    }
