-- A filter that is set stays so: a sample changes its state alone, so to set it again as it was set changes nothing.
use Rattle.std.specs.Prelude.{◌≡◌}
use mathlib.Core.Path.{ap}
use lib.Ieee.{Float}
use Rattle.filter.specs.declared.OnePole.{OnePole}
use Rattle.filter.specs.declared.Svf.{Svf}
use Rattle.filter.specs.declared.FilterMode.{FilterMode}
use Rattle.filter.specs.declared.FrequencyApproximation.{FrequencyApproximation}
use Rattle.filter.specs.OnePole as OnePole
use Rattle.filter.specs.Svf as Svf

pub svf_stays : (s : Svf) (f resonance : Float) (approximation : FrequencyApproximation) → Svf.set_f_q s f resonance approximation ≡ s
    → (x : Float) (mode : FilterMode) → Svf.set_f_q (Svf.process s x mode).filter f resonance approximation ≡ (Svf.process s x mode).filter
unfolding Svf.set_g_q Svf.set_g_r Svf.process Svf.passed
svf_stays s f resonance approximation e x mode =
    ap (λ (set : Svf). Svf.set_g_r_h (Svf.process s x mode).filter set.g set.r set.h) e

pub one_pole_stays : (s : OnePole) (f : Float) (approximation : FrequencyApproximation) → OnePole.set_f s f approximation ≡ s
    → (x : Float) (mode : FilterMode) → OnePole.set_f (OnePole.process s x mode).filter f approximation ≡ (OnePole.process s x mode).filter
unfolding OnePole.set_f OnePole.process
one_pole_stays s f approximation e x mode =
    ap (λ (set : OnePole). record { g = set.g; gi = set.gi; state = (OnePole.process s x mode).filter.state }) e
