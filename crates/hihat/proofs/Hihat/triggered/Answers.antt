-- The literals agree with the definition's by computing.
use Rattle.std.proofs.Common.{refl}
use lib.Ieee.{round, of_bits}
use Rattle.hihat.specs.Hihat.{triggered}
use Rattle.hihat.proofs.Hihat.triggered.Goals as goal

pub returns : goal.returns
unfolding triggered round of_bits
returns c = refl
