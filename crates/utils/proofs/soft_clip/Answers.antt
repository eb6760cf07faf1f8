-- Each branch is an arm of the definition; the literals agree by computing.
use lib.Ieee.{round, of_bits}
use Rattle.utils.specs.Utils.{soft_clip}
use Rattle.utils.proofs.soft_clip.Goals as goal

pub returns-then-x : goal.returns-then-x
unfolding soft_clip round of_bits
returns-then-x c = rw c.if-x.true

pub returns-then-x-2 : goal.returns-then-x-2
unfolding soft_clip round of_bits
returns-then-x-2 c = rw (c.if-x.false, c.if-x-2.true)

pub returns-else-x-2 : goal.returns-else-x-2
unfolding soft_clip round of_bits
returns-else-x-2 c = rw (c.if-x.false, c.if-x-2.false, c.soft_limit.ensures)
