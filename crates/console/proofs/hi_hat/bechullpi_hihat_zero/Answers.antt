-- The constant is, literal by literal, the record of zeros.
use lib.Ieee.{round, of_bits}
use mathlib.Core.Path.{refl}
use Rattle.filter.specs.Svf as Svf
use Rattle.hihat.specs.Hihat.{ZERO}
use Rattle.console.proofs.hi_hat.bechullpi_hihat_zero.Goals as goal

pub returns : goal.returns
unfolding ZERO Svf.ZERO round of_bits
returns c = refl
