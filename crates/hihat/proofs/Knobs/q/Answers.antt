-- The definition's two arms, by the resonance.
use lib.Ieee.{round, of_bits}
use Rattle.hihat.proofs.Knobs.q.Goals as goal

pub returns-then-self : goal.returns-then-self
unfolding round of_bits
returns-then-self c = rw c.if-self.true

pub returns-else-self : goal.returns-else-self
unfolding round of_bits
returns-else-self c = rw c.if-self.false
