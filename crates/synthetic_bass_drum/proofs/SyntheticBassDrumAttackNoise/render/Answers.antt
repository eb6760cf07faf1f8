-- The last call first.
use lib.Ieee.{round, of_bits}
use Rattle.synthetic_bass_drum.specs.AttackNoise.{render}
use Rattle.synthetic_bass_drum.proofs.SyntheticBassDrumAttackNoise.render.Goals as goal

pub returns : goal.returns
unfolding render round of_bits
returns c = rw (c.one_pole-hp.ensures, c.one_pole-lp.ensures, c.get_float-draw.ensures)
