-- The constant is, literal by literal, the record of zeros.
use lib.Ieee.{round, of_bits}
use mathlib.Core.Path.{refl}
use Rattle.filter.specs.Svf as Svf
use Rattle.console.proofs.filters.bechullpi_filter_svf_zero.Goals as goal

pub returns : goal.returns
unfolding Svf.ZERO round of_bits
returns c = refl
