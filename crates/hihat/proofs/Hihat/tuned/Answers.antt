-- One filter after the other.
use lib.Ieee.{round, of_bits}
use Rattle.hihat.specs.Hihat.{set_coloration, set_hpf}
use Rattle.hihat.proofs.Hihat.tuned.Goals as goal

pub returns : goal.returns
unfolding set_coloration set_hpf round of_bits
returns c = rw (c.set_f_q-hpf.ensures, c.set_f_q-noise_coloration_svf.ensures)
