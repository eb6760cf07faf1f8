-- The definition's two arms, by the tone.
use lib.Ieee.{round, of_bits}
use Rattle.analog_snare_drum.specs.AnalogSnareDrum.{gains}
use Rattle.analog_snare_drum.proofs.gains.Goals as goal

pub returns-then-tone : goal.returns-then-tone
unfolding gains round of_bits
returns-then-tone c = rw c.if-tone.true

pub returns : goal.returns
unfolding gains round of_bits
returns c = rw c.if-tone.false
