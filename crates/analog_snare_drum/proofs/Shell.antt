-- The shell, mode after mode.
use Prim.Native.Nat.{ℕ, zero, suc}
use mathlib.Core.Path.{◌≡◌, refl}
use mathlib.Core.Bool.{cond}
use mathlib.Core.List.{List}
use lib.Dec.{eqb}
use lib.ListN.{get_or, set, replicate}
use lib.Ieee.{Float, nan}
use Rattle.ieee754.specs.Single.{decimal}
use Rattle.utils.specs.Utils.{soft_clip}
use Rattle.filter.specs.Svf as Filter
use Rattle.filter.specs.declared.Svf.{Svf}
use Rattle.analog_snare_drum.specs.AnalogSnareDrum.{filter_of, mode_output, shell_output}
use Rattle.analog_snare_drum.specs.declared.Settings.{Settings}
use Rattle.analog_snare_drum.specs.declared.ShellOutput.{ShellOutput}

module _ (b : Settings) (old : List Svf) (first other : Float) where
  -- the resonators and the shell past the first n modes
  abbrev pub past : ℕ → ShellOutput
  past zero = record { resonator = replicate 5 Filter.ZERO; shell = decimal 0 0 }
  past (suc n) =
      let before = past n in
      let mode = mode_output before.shell (get_or b.gain n nan) (filter_of old n) (cond (eqb n 0) first other) b.exciter_leak in
      record { resonator = set before.resonator n mode.resonator; shell = mode.shell }

  -- past all five they are the definition's
  pub all : let modes = past 5 in ◌≡◌ {A = ShellOutput} (record { resonator = modes.resonator; shell = soft_clip modes.shell }) (shell_output b old first other)
  unfolding shell_output
  all = refl
