-- The filter's value in the definition's turn.
use Rattle.hihat.specs.Hihat.{colored}
use Rattle.hihat.proofs.Hihat.colored.Goals as goal

pub returns : goal.returns
unfolding colored
returns c = rw c.process-o.ensures
