-- The definition's two arms, by whether the frequency is held.
use lib.Ieee.{round, of_bits}
use Rattle.hihat.specs.SquareNoise.{increment}
use Rattle.hihat.proofs.square_noise.increment_at.Goals as goal

pub returns-then-f : goal.returns-then-f
unfolding increment round of_bits
returns-then-f c = rw c.if-f.true c.truncate_u32.ensures

pub returns : goal.returns
unfolding increment round of_bits
returns c = rw c.if-f.false c.truncate_u32-2.ensures
