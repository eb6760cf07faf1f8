-- utils/mod.rs, function by function. Definitions only.
use Rattle.std.specs.Prelude.{cond, Float}
use Rattle.std.specs.Float.{binary32}
use Rattle.std.specs.Float.Ieee.{neg, lt}
use Rattle.ieee754.specs.Single.{◌⊕◌, ◌⊖◌, ◌⊗◌, ◌⊘◌, decimal}
use Rattle.ieee754.specs.Root as Root

-- `*out += (coefficient) * ((in_) - *out);`
abbrev pub one_pole : Float → Float → Float → Float
one_pole out in_ coefficient = out ⊕ coefficient ⊗ (in_ ⊖ out)

-- a rising slope adds `positive` itself, and not its product with the error
unfoldable pub slope : Float → Float → Float → Float → Float
slope out in_ positive negative =
    let error = in_ ⊖ out in
    out ⊕ cond (lt (decimal 0 0) error) positive (negative ⊗ error)

abbrev pub crossfade : Float → Float → Float → Float
crossfade a b fade = a ⊕ (b ⊖ a) ⊗ fade

unfoldable pub soft_limit : Float → Float
soft_limit x = x ⊗ (decimal 27 0 ⊕ x ⊗ x) ⊘ (decimal 27 0 ⊕ decimal 9 0 ⊗ x ⊗ x)

unfoldable pub soft_clip : Float → Float
soft_clip x = cond (lt x (neg (decimal 3 0))) (neg (decimal 1 0)) (cond (lt (decimal 3 0) x) (decimal 1 0) (soft_limit x))

abbrev pub sqrt : Float → Float
sqrt x = Root.sqrt binary32 x
