-- Each branch is a value of the definition's first test.
use Rattle.refusal.specs.Refusal.{within}
use Rattle.refusal.proofs.within.Goals as goal

pub returns-then-low-x : goal.returns-then-low-x
unfolding within
returns-then-low-x c = rw c.if-low-x.true

pub returns-else-low-x : goal.returns-else-low-x
unfolding within
returns-else-low-x c = rw c.if-low-x.false
