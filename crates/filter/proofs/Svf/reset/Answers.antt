-- The literals agree by computing.
use mathlib.Core.Path.{refl}
use lib.Ieee.{round, of_bits}
use Rattle.filter.specs.Svf.{reset}
use Rattle.filter.proofs.Svf.reset.Goals as goal

pub returns : goal.returns
unfolding reset round of_bits
returns c = refl
