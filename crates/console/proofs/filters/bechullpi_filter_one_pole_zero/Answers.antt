-- The constant is, literal by literal, the record of zeros.
use lib.Ieee.{round, of_bits}
use mathlib.Core.Path.{refl}
use Rattle.filter.specs.OnePole as OnePole
use Rattle.console.proofs.filters.bechullpi_filter_one_pole_zero.Goals as goal

pub returns : goal.returns
unfolding OnePole.ZERO round of_bits
returns c = refl
