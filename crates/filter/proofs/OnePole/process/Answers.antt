-- In each arm the mode is known, and the definition computes.
use mathlib.Core.Logic.{inl, inr}
use lib.Ieee.{round, of_bits}
use Rattle.filter.specs.OnePole.{process, output}
use Rattle.filter.proofs.OnePole.process.Goals as goal

pub returns-in-LowPass : goal.returns-in-LowPass
unfolding process output round of_bits
returns-in-LowPass c = rw c.in-LowPass.is

pub returns-in-HighPass : goal.returns-in-HighPass
unfolding process output round of_bits
returns-in-HighPass c = rw c.in-HighPass.is

pub returns-in-BandPass : goal.returns-in-BandPass
unfolding process output round of_bits
returns-in-BandPass c = elim c.in-BandPass.is [ inl e ↦ rw e | inr e ↦ rw e ]
