-- The definition, of what `tan` gives; the literals agree by computing.
use lib.Ieee.{round, of_bits}
use Rattle.filter.specs.OnePole.{set_f}
use Rattle.filter.proofs.OnePole.set_f.Goals as goal

pub returns : goal.returns
unfolding set_f round of_bits
returns c = rw c.tan-g.ensures
