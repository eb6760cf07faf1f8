-- The constant is, literal by literal, the record of zeros.
use lib.Ieee.{round, of_bits}
use mathlib.Core.Path.{refl}
use Rattle.filter.specs.Svf as Svf
use Rattle.synthetic_bass_drum.specs.Click as Click
use Rattle.synthetic_bass_drum.specs.Transient.{ZERO}
use Rattle.console.proofs.synthetic_bass.bechullpi_synthetic_bass_drum_transient_zero.Goals as goal

pub returns : goal.returns
unfolding ZERO Click.ZERO Svf.ZERO round of_bits
returns c = refl
