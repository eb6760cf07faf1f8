-- The arms of the definition's questions.
use lib.Ieee.{round, of_bits}
use Rattle.synthetic_snare_drum.specs.SyntheticSnareDrum.{reset}
use Rattle.synthetic_snare_drum.proofs.reset.Goals as goal

pub returns-then-phase-reset_noise : goal.returns-then-phase-reset_noise
unfolding reset round of_bits
returns-then-phase-reset_noise c = rw (c.if-reset_noise_amount.true, c.if-phase-reset_noise.true)

pub returns-then-reset_noise_amount : goal.returns-then-reset_noise_amount
unfolding reset round of_bits
returns-then-reset_noise_amount c = rw (c.if-reset_noise_amount.true, c.if-phase-reset_noise.false)

pub returns-then-phase : goal.returns-then-phase
unfolding reset round of_bits
returns-then-phase c = rw (c.if-reset_noise_amount.false, c.if-phase.true)

pub returns : goal.returns
unfolding reset round of_bits
returns c = rw (c.if-reset_noise_amount.false, c.if-phase.false)
