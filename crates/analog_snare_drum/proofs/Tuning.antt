-- The resonators tuned, mode after mode.
use Prim.Native.Nat.{ℕ, zero, suc}
use mathlib.Core.Path.{◌≡◌, refl}
use mathlib.Core.Bool.{cond}
use mathlib.Core.List.{List}
use lib.Dec.{eqb}
use lib.ListN.{get_or, set, replicate}
use lib.Ieee.{Float, nan}
use Rattle.ieee754.specs.Single.{◌⊗◌, decimal}
use Rattle.filter.specs.Svf as Filter
use Rattle.filter.specs.declared.Svf.{Svf}
use Rattle.analog_snare_drum.specs.AnalogSnareDrum.{filter_of, tuned_mode, tuned_modes, MODE_FREQUENCIES}

module _ (old : List Svf) (f0 q : Float) where
  -- the resonators past the first n modes
  abbrev pub past : ℕ → List Svf
  past zero = replicate 5 Filter.ZERO
  past (suc n) = set (past n) n (tuned_mode (filter_of old n) f0 (get_or MODE_FREQUENCIES n nan) (cond (eqb n 0) q (q ⊗ decimal 25 2)))

  pub all : past 5 ≡ tuned_modes old f0 q
  all = refl
