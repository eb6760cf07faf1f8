-- The arms of the definition's two questions.
use lib.Ieee.{round, of_bits}
use Rattle.hihat.specs.Hihat.{decay}
use Rattle.hihat.proofs.passes.decay.Goals as goal

pub returns-then-envelope : goal.returns-then-envelope
unfolding decay round of_bits
returns-then-envelope c = rw c.if-envelope.true

pub returns-then-settings : goal.returns-then-settings
unfolding decay round of_bits
returns-then-settings c = rw (c.if-envelope.false, c.if-settings.true)

pub returns : goal.returns
unfolding decay round of_bits
returns c = rw (c.if-envelope.false, c.if-settings.false)
