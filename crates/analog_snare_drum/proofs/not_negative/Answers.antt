-- The definition's two arms, by the comparison with 0.0.
use lib.Ieee.{round, of_bits}
use Rattle.analog_snare_drum.proofs.not_negative.Goals as goal

pub returns-then-noise : goal.returns-then-noise
unfolding round of_bits
returns-then-noise c = rw c.if-noise.true

pub returns-else-noise : goal.returns-else-noise
unfolding round of_bits
returns-else-noise c = rw c.if-noise.false
