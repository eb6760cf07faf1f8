-- The filter's value in the definition's turn.
use Rattle.hihat.specs.Hihat.{high_passed}
use Rattle.hihat.proofs.Hihat.high_passed.Goals as goal

pub returns : goal.returns
unfolding high_passed
returns c = rw c.process-o.ensures
