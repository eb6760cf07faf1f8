-- The calls' values in the definition's record.
use lib.Ieee.{round, of_bits}
use Rattle.hihat.specs.Hihat.{initialized}
use Rattle.hihat.proofs.Hihat.initialized.Goals as goal

pub returns : goal.returns
unfolding initialized round of_bits
returns c = rw (c.init-hpf.ensures, c.init-noise_coloration_svf.ensures, c.init-square_noise.ensures)
