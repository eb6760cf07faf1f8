-- The definition, of what the two calls give; the literals agree by computing.
use lib.Ieee.{round, of_bits}
use Rattle.filter.specs.Svf.{init}
use Rattle.filter.proofs.Svf.init.Goals as goal

pub returns : goal.returns
unfolding init round of_bits
returns c = rw (c.reset.ensures, c.set_f_q.ensures)
