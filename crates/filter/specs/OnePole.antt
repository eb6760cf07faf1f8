-- utils/filter.rs: `OnePole`, with the tangent that both filters use. Definitions only.
use Rattle.std.specs.Prelude.{Float}
use Rattle.ieee754.specs.Single.{◌⊕◌, ◌⊖◌, ◌⊗◌, ◌⊘◌, decimal}
use Rattle.filter.specs.declared.OnePole.{OnePole}
use Rattle.filter.specs.declared.OnePoleOutput.{OnePoleOutput}
use Rattle.filter.specs.declared.FilterMode.{FilterMode}
use Rattle.filter.specs.declared.FilterMode.TheVariants.{LowPass, BandPass, BandPassNormalized, HighPass}
use Rattle.filter.specs.declared.FrequencyApproximation.{FrequencyApproximation}
use Rattle.filter.specs.declared.FrequencyApproximation.TheVariants.{Accurate, Fast, Dirty}

-- M_PI_F, which is core::f32::consts::PI, and its powers: each product is rounded
abbrev pub π : Float
π = decimal 314159265358979323846264338327950288 35

abbrev pub π² : Float
π² = π ⊗ π

abbrev pub π³ : Float
π³ = π² ⊗ π

abbrev pub π⁵ : Float
π⁵ = π³ ⊗ π²

abbrev pub π⁷ : Float
π⁷ = π⁵ ⊗ π²

abbrev pub π⁹ : Float
π⁹ = π⁷ ⊗ π²

abbrev pub π¹¹ : Float
π¹¹ = π⁹ ⊗ π²

unfoldable pub tan : Float → FrequencyApproximation → Float
tan f Dirty =
    let a = decimal 3736 4 ⊗ π³ in
    f ⊗ (π ⊕ a ⊗ f ⊗ f)
tan f Fast =
    let a = decimal 3260 4 ⊗ π³ in
    let b = decimal 1823 4 ⊗ π⁵ in
    let f2 = f ⊗ f in
    f ⊗ (π ⊕ f2 ⊗ (a ⊕ b ⊗ f2))
tan f Accurate =
    let a = decimal 3333314036 10 ⊗ π³ in
    let b = decimal 1333923995 10 ⊗ π⁵ in
    let c = decimal 533740603 10 ⊗ π⁷ in
    let d = decimal 2900525 9 ⊗ π⁹ in
    let e = decimal 95168091 10 ⊗ π¹¹ in
    let f2 = f ⊗ f in
    f ⊗ (π ⊕ f2 ⊗ (a ⊕ f2 ⊗ (b ⊕ f2 ⊗ (c ⊕ f2 ⊗ (d ⊕ f2 ⊗ e)))))

unfoldable pub ZERO : OnePole
ZERO = record { g = decimal 0 0; gi = decimal 0 0; state = decimal 0 0 }

unfoldable pub reset : OnePole → OnePole
reset s = record { g = s.g; gi = s.gi; state = decimal 0 0 }

unfoldable pub set_f : OnePole → Float → FrequencyApproximation → OnePole
set_f s f approximation =
    let g = tan f approximation in
    record { g = g; gi = decimal 1 0 ⊘ (decimal 1 0 ⊕ g); state = s.state }

abbrev pub init : OnePole → OnePole
init s = reset (set_f s (decimal 1 2) Dirty)

-- the Rust's `_ => 0.0`: there is no band-pass output
unfoldable pub output : Float → Float → FilterMode → Float
output in_ lp LowPass = lp
output in_ lp HighPass = in_ ⊖ lp
output in_ lp BandPass = decimal 0 0
output in_ lp BandPassNormalized = decimal 0 0

unfoldable pub process : OnePole → Float → FilterMode → OnePoleOutput
process s in_ mode =
    let lp = (s.g ⊗ in_ ⊕ s.state) ⊗ s.gi in
    record {
      filter = record { g = s.g; gi = s.gi; state = s.g ⊗ (in_ ⊖ lp) ⊕ lp };
      out = output in_ lp mode;
    }
