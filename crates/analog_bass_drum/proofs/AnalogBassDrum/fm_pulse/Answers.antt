-- The countdown's end, and one less that is or is not its end.
use borrow.Author.Tests.{eq-eqb, ne_eqb}
use lib.Ieee.{round, of_bits}
use Rattle.analog_bass_drum.specs.Excitation.{fm_pulse}
use Rattle.analog_bass_drum.proofs.AnalogBassDrum.fm_pulse.Goals as goal

pub returns-then-self-eq0 : goal.returns-then-self-eq0
unfolding fm_pulse round of_bits
returns-then-self-eq0 c = rw c.if-self-eq0.true

pub returns-then-remaining_samples-eq0 : goal.returns-then-remaining_samples-eq0
unfolding fm_pulse round of_bits
returns-then-remaining_samples-eq0 c = rw (ne_eqb _ _ c.if-self-eq0.false, eq-eqb _ _ c.if-remaining_samples-eq0.true)

pub returns-else-remaining_samples-eq0 : goal.returns-else-remaining_samples-eq0
unfolding fm_pulse round of_bits
returns-else-remaining_samples-eq0 c = rw (ne_eqb _ _ c.if-self-eq0.false, ne_eqb _ _ c.if-remaining_samples-eq0.false)
