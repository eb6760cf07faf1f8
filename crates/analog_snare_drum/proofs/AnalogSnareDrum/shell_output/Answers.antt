-- Mode after mode.
use borrow.Author.Tests.{ne_eqb}
use native.Mathlib.Omega.{arith}
use native.Mathlib.Numerals.{add-one}
use mathlib.Core.Path.{◌≡◌, refl, ap, ◌∙◌}
use mathlib.Core.Bool.{cond}
use lib.Dec.{eqb}
use lib.Ieee.{round, of_bits}
use Rattle.utils.specs.Utils.{soft_clip}
use Rattle.filter.specs.Svf.{ZERO}
use Rattle.analog_snare_drum.specs.declared.ShellOutput.{ShellOutput}
use Rattle.analog_snare_drum.proofs.Shell.{all}
use Rattle.analog_snare_drum.proofs.AnalogSnareDrum.shell_output.Goals as goal
use Rattle.analog_snare_drum.proofs.AnalogSnareDrum.shell_output.Goals.{then-i-eq0, else-i-eq0}

pub loop-i-init : goal.loop-i-init
unfolding ZERO round of_bits
loop-i-init c = refl

pub loop-i-preserved : goal.loop-i-preserved
loop-i-preserved c =
    let excitation : c.if-i-eq0.excitation ≡ cond (eqb c.loop-i.i 0) c.args.first c.args.other =
    elim c.if-i-eq0.branch [
      | then-i-eq0 w ↦ rw (w.excitation-is, w.if-i-eq0.true) refl
      | else-i-eq0 w ↦ rw (w.excitation-is, ne_eqb c.loop-i.i 0 w.if-i-eq0.false) refl
    ] in
    rw (add-one, ← c.loop-i.invariant, c.mode_output-mode.ensures, excitation) refl

pub returns : goal.returns
returns c =
    let five : c.loop-i.i ≡ 5 = omega arith in
    let modes = rw five at c.loop-i.invariant in
    rw c.soft_clip.ensures (ap (λ (s : ShellOutput). record { resonator = s.resonator; shell = soft_clip s.shell }) modes ∙ all _ _ _ _)
