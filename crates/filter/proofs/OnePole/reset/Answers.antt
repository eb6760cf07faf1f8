-- The literals agree by computing.
use mathlib.Core.Path.{refl}
use lib.Ieee.{round, of_bits}
use Rattle.filter.specs.OnePole.{reset}
use Rattle.filter.proofs.OnePole.reset.Goals as goal

pub returns : goal.returns
unfolding reset round of_bits
returns c = refl
