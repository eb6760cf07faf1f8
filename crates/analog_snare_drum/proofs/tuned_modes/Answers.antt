-- Mode after mode; the frequencies are those of the definition.
use borrow.Author.Tests.{ne_eqb}
use native.Mathlib.Omega.{arith}
use native.Mathlib.Numerals.{add-one}
use mathlib.Core.Path.{◌≡◌, refl, ◌∙◌}
use mathlib.Core.Bool.{cond}
use lib.Dec.{eqb}
use lib.Ieee.{round, of_bits}
use Rattle.ieee754.specs.Single.{◌⊗◌, decimal}
use Rattle.filter.specs.Svf.{ZERO}
use Rattle.analog_snare_drum.specs.AnalogSnareDrum.{MODE_FREQUENCIES}
use Rattle.analog_snare_drum.proofs.Tuning.{all}
use Rattle.analog_snare_drum.proofs.tuned_modes.Goals as goal
use Rattle.analog_snare_drum.proofs.tuned_modes.Goals.{then-i-eq0, else-i-eq0}

pub loop-i-init : goal.loop-i-init
unfolding ZERO round of_bits
loop-i-init c = refl

pub loop-i-preserved : goal.loop-i-preserved
unfolding MODE_FREQUENCIES round of_bits
loop-i-preserved c =
    let q : c.if-i-eq0.q ≡ cond (eqb c.loop-i.i 0) c.args.q (c.args.q ⊗ decimal 25 2) =
    elim c.if-i-eq0.branch [
      | then-i-eq0 w ↦ rw (w.q-is, w.if-i-eq0.true) refl
      | else-i-eq0 w ↦ rw (w.q-is, ne_eqb c.loop-i.i 0 w.if-i-eq0.false) refl
    ] in
    rw (add-one, ← c.loop-i.invariant, c.tuned_mode.ensures, q) refl

pub returns : goal.returns
returns c =
    let five : c.loop-i.i ≡ 5 = omega arith in
    let tuned = rw five at c.loop-i.invariant in
    tuned ∙ all c.args.resonator c.args.f0 c.args.q
