-- The definition's two arms, by the half of the wave.
use lib.Ieee.{round, of_bits}
use Rattle.hihat.specs.Hihat.{drive}
use Rattle.hihat.proofs.passes.drive.Goals as goal

pub returns-then-s : goal.returns-then-s
unfolding drive round of_bits
returns-then-s c = rw c.if-s.true

pub returns-else-s : goal.returns-else-s
unfolding drive round of_bits
returns-else-s c = rw c.if-s.false
