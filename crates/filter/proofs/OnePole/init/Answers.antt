-- The definition, of what the two calls give; the literals agree by computing.
use lib.Ieee.{round, of_bits}
use Rattle.filter.proofs.OnePole.init.Goals as goal

pub returns : goal.returns
unfolding round of_bits
returns c = rw (c.reset.ensures, c.set_f.ensures)
