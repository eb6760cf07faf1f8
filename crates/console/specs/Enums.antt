-- The choices that cross to C as bools, and what each value means. Definitions only.
use Rattle.std.specs.Prelude.{Bool, cond}
use Rattle.filter.specs.declared.FilterMode as Mode
use Rattle.filter.specs.declared.FilterMode.TheVariants.{LowPass, BandPass, BandPassNormalized, HighPass}
use Rattle.filter.specs.declared.FrequencyApproximation as Approximation
use Rattle.filter.specs.declared.FrequencyApproximation.TheVariants.{Accurate, Fast, Dirty}
use Rattle.hihat.specs.declared.VcaType.{VcaType}
use Rattle.hihat.specs.declared.VcaType.TheVariants.{Swing, Linear}
use Rattle.console.specs.declared.enums.FilterMode.{FilterMode}
use Rattle.console.specs.declared.enums.FrequencyApproximation.{FrequencyApproximation}

abbrev pub filter_mode : FilterMode → Mode.FilterMode
filter_mode m = cond m.band_pass (cond m.high_or_normalized BandPassNormalized BandPass) (cond m.high_or_normalized HighPass LowPass)

abbrev pub approximation : FrequencyApproximation → Approximation.FrequencyApproximation
approximation a = cond a.dirty Dirty (cond a.fast Fast Accurate)

abbrev pub vca_type : Bool → VcaType
vca_type linear = cond linear Linear Swing
