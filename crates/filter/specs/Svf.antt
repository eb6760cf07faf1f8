-- utils/filter.rs: `Svf`, the state variable filter. Definitions only.
use Rattle.std.specs.Prelude.{List, ◌++◌, length, take, drop}
use Rattle.std.specs.Prelude.{Float}
use Rattle.ieee754.specs.Single.{◌⊕◌, ◌⊖◌, ◌⊗◌, ◌⊘◌, decimal}
use Rattle.block.specs.Block as Block
use Rattle.block.specs.declared.Turn.{Turn}
use Rattle.block.specs.Block.{scan, scanned}
use Rattle.filter.specs.declared.Svf.{Svf}
use Rattle.filter.specs.declared.Passed.{Passed}
use Rattle.filter.specs.declared.SvfOutput.{SvfOutput}
use Rattle.filter.specs.declared.SvfDualOutput.{SvfDualOutput}
use Rattle.filter.specs.declared.FilterMode.{FilterMode}
use Rattle.filter.specs.declared.FilterMode.TheVariants.{LowPass, BandPass, BandPassNormalized, HighPass}
use Rattle.filter.specs.declared.FrequencyApproximation.{FrequencyApproximation}
use Rattle.filter.specs.declared.FrequencyApproximation.TheVariants.{Dirty}
use Rattle.filter.specs.OnePole.{tan}

unfoldable pub ZERO : Svf
ZERO = record { g = decimal 0 0; r = decimal 0 0; h = decimal 0 0; state_1 = decimal 0 0; state_2 = decimal 0 0 }

unfoldable pub reset : Svf → Svf
reset s = record { g = s.g; r = s.r; h = s.h; state_1 = decimal 0 0; state_2 = decimal 0 0 }

-- ---- the settings; the state stays

abbrev pub set_g_r_h : Svf → Float → Float → Float → Svf
set_g_r_h s g r h = record { g = g; r = r; h = h; state_1 = s.state_1; state_2 = s.state_2 }

abbrev pub set : Svf → Svf → Svf
set s f = set_g_r_h s f.g f.r f.h

unfoldable pub set_g_r : Svf → Float → Float → Svf
set_g_r s g r = set_g_r_h s g r (decimal 1 0 ⊘ (decimal 1 0 ⊕ r ⊗ g ⊕ g ⊗ g))

unfoldable pub set_g_q : Svf → Float → Float → Svf
set_g_q s g resonance = set_g_r s g (decimal 1 0 ⊘ resonance)

abbrev pub set_f_q : Svf → Float → Float → FrequencyApproximation → Svf
set_f_q s f resonance approximation = set_g_q s (tan f approximation) resonance

unfoldable pub init : Svf → Svf
init s = reset (set_f_q s (decimal 1 2) (decimal 100 0) Dirty)

-- ---- one sample

-- the five lines that `process`, `process_dual` and `process_buffer` share: the filter after the sample, and what a mode chooses from
unfoldable pub passed : Svf → Float → Passed
passed s in_ =
    let hp = (in_ ⊖ s.r ⊗ s.state_1 ⊖ s.g ⊗ s.state_1 ⊖ s.state_2) ⊗ s.h in
    let bp = s.g ⊗ hp ⊕ s.state_1 in
    let state₁ = s.g ⊗ hp ⊕ bp in
    let lp = s.g ⊗ bp ⊕ s.state_2 in
    let state₂ = s.g ⊗ bp ⊕ lp in
    record { filter = record { g = s.g; r = s.r; h = s.h; state_1 = state₁; state_2 = state₂ }; lp = lp; bp = bp; hp = hp }

unfoldable pub output : Passed → FilterMode → Float
output p LowPass = p.lp
output p BandPass = p.bp
output p BandPassNormalized = p.bp ⊗ p.filter.r
output p HighPass = p.hp

unfoldable pub process : Svf → Float → FilterMode → SvfOutput
process s in_ mode =
    let p = passed s in_ in
    record { filter = p.filter; out = output p mode }

unfoldable pub process_dual : Svf → Float → FilterMode → FilterMode → SvfDualOutput
process_dual s in_ mode₁ mode₂ =
    let p = passed s in_ in
    record { filter = p.filter; out_1 = output p mode₁; out_2 = output p mode₂ }

-- ---- a buffer

-- a sample through `process`, as a stage over a block
unfoldable pub stage : FilterMode → Svf → Float → Turn Svf
stage mode s in_ =
    let o = process s in_ mode in
    record { sample = o.out; next = o.filter }

-- the samples of `in_` that have a place in `out`, the Rust's `in_.iter().zip(out.iter_mut())`, and then what `out` held
abbrev pub process_buffer : Svf → List Float → List Float → FilterMode → Block.Passed Svf
process_buffer s in_ out mode =
    let paired = take (length out) in_ in
    record { state = scanned (stage mode) s paired; out = scan (stage mode) s paired ++ drop (length paired) out }
