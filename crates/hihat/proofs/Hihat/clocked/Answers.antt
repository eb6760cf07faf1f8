-- The definition's two arms, by the clock.
use lib.Ieee.{round, of_bits}
use Rattle.hihat.specs.Hihat.{clocked}
use Rattle.hihat.proofs.Hihat.clocked.Goals as goal

pub returns-then-noise_clock : goal.returns-then-noise_clock
unfolding clocked round of_bits
returns-then-noise_clock c = rw (c.get_float-draw.ensures, c.if-noise_clock.true)

pub returns : goal.returns
unfolding clocked round of_bits
returns c = rw c.if-noise_clock.false
