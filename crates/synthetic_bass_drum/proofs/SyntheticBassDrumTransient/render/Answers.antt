-- The two parts of the block, one after the other, are a block that is fed the zeros and then the ones.
use Rattle.std.proofs.Common.{rules}
use lib.Ieee.{round, of_bits}
use Rattle.block.proofs.Blocks.{scan-append, scanned-append}
use Rattle.synthetic_bass_drum.specs.Transient.{fed}
use Rattle.synthetic_bass_drum.proofs.SyntheticBassDrumTransient.render.Goals as goal

pub returns-clause-transient : goal.returns-clause-transient
unfolding fed round of_bits
returns-clause-transient c = rw (c.held-2.ensures.transient, c.held.ensures.transient, ← scanned-append) (search rules)

pub returns-clause-out : goal.returns-clause-out
unfolding fed round of_bits
returns-clause-out c = rw (c.held-2.ensures.out, c.held.ensures.out, c.held.ensures.transient, ← scan-append) (search rules)
