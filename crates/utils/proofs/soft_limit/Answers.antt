-- The literals agree by computing.
use mathlib.Core.Path.{refl}
use lib.Ieee.{round, of_bits}
use Rattle.utils.specs.Utils.{soft_limit}
use Rattle.utils.proofs.soft_limit.Goals as goal

pub returns : goal.returns
unfolding soft_limit round of_bits
returns c = refl
