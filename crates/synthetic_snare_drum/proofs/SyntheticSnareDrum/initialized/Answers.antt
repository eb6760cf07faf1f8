-- The calls' values in the definition's record.
use lib.Ieee.{round, of_bits}
use Rattle.synthetic_snare_drum.specs.SyntheticSnareDrum.{initialized}
use Rattle.synthetic_snare_drum.proofs.SyntheticSnareDrum.initialized.Goals as goal

pub returns : goal.returns
unfolding initialized round of_bits
returns c = rw (c.init-snare_lp.ensures, c.init-snare_hp.ensures, c.init-drum_lp.ensures)
