-- utils/parameter_interpolator.rs. Definitions only.
use Rattle.std.specs.Prelude.{ℕ, pos, Float}
use Rattle.std.specs.Float.{binary32}
use Rattle.std.specs.Float.Ieee.{of_int}
use Rattle.ieee754.specs.Single.{◌⊕◌, ◌⊖◌, ◌⊘◌}
use Rattle.parameter_interpolator.specs.declared.ParameterInterpolator.{ParameterInterpolator}

-- `size as f32` is the size rounded to nearest
abbrev pub new : Float → Float → ℕ → ParameterInterpolator
new value new_value size = record { value = value; increment = (new_value ⊖ value) ⊘ of_int binary32 (pos size) }

abbrev pub next : ParameterInterpolator → ParameterInterpolator
next p = record { value = p.value ⊕ p.increment; increment = p.increment }
