-- The two arms, by the half of the phase.
use lib.Ieee.{round, of_bits}
use Rattle.synthetic_snare_drum.proofs.reset_sign.Goals as goal

pub returns-then-phase : goal.returns-then-phase
unfolding round of_bits
returns-then-phase c = rw c.if-phase.true

pub returns-else-phase : goal.returns-else-phase
unfolding round of_bits
returns-else-phase c = rw c.if-phase.false
