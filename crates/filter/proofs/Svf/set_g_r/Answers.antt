-- The definition, of what `set_g_r_h` gives; the literals agree by computing.
use lib.Ieee.{round, of_bits}
use Rattle.filter.specs.Svf.{set_g_r}
use Rattle.filter.proofs.Svf.set_g_r.Goals as goal

pub returns : goal.returns
unfolding set_g_r round of_bits
returns c = rw c.set_g_r_h.ensures
