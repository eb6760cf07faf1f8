-- Each branch is an arm of the definition; the literals agree by computing.
use lib.Ieee.{round, of_bits}
use Rattle.utils.specs.Utils.{slope}
use Rattle.utils.proofs.slope.Goals as goal

pub returns-then-error : goal.returns-then-error
unfolding slope round of_bits
returns-then-error c = rw c.if-error.true

pub returns-else-error : goal.returns-else-error
unfolding slope round of_bits
returns-else-error c = rw c.if-error.false
