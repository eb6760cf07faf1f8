-- The larger of 1 - x and 1 + x is 1 + |x|.
use lib.Ieee.{round, of_bits}
use Rattle.synthetic_snare_drum.proofs.Folding.{one_plus_abs}
use Rattle.synthetic_snare_drum.proofs.one_plus_abs.Goals as goal

pub returns-then-below-above : goal.returns-then-below-above
unfolding round of_bits
returns-then-below-above c = rw c.if-below-above.true at (one_plus_abs c.args.x)

pub returns-else-below-above : goal.returns-else-below-above
unfolding round of_bits
returns-else-below-above c = rw c.if-below-above.false at (one_plus_abs c.args.x)
