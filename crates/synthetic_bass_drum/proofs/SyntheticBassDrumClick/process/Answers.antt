-- The last call first.
use lib.Ieee.{round, of_bits}
use Rattle.synthetic_bass_drum.specs.Click.{process}
use Rattle.synthetic_bass_drum.proofs.SyntheticBassDrumClick.process.Goals as goal

pub returns : goal.returns
unfolding process round of_bits
returns c = rw (c.process-low.ensures, c.one_pole-hp.ensures, c.slope-lp.ensures)
