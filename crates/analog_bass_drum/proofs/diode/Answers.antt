-- The definition's two arms; below 0.0 its divisor is the code's.
use lib.Ieee.{round, of_bits}
use Rattle.analog_bass_drum.specs.AnalogBassDrum.{diode}
use Rattle.analog_bass_drum.proofs.Magnitude.{divisor}
use Rattle.analog_bass_drum.proofs.diode.Goals as goal

pub returns-then-x : goal.returns-then-x
unfolding diode round of_bits
returns-then-x c = rw c.if-x.true

pub returns : goal.returns
unfolding diode round of_bits
returns c = rw (c.if-x.false, divisor c.args.x c.if-x.false)
