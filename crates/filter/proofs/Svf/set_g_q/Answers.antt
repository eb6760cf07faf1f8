-- The definition, of what `set_g_r` gives; the literals agree by computing.
use lib.Ieee.{round, of_bits}
use Rattle.filter.specs.Svf.{set_g_q}
use Rattle.filter.proofs.Svf.set_g_q.Goals as goal

pub returns : goal.returns
unfolding set_g_q round of_bits
returns c = rw c.set_g_r.ensures
