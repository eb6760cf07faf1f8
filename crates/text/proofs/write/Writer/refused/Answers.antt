-- The word, the number and the line are one text.
use Rattle.text.specs.Write.{refused}
use Rattle.text.proofs.Written.{then-both}
use Rattle.text.proofs.write.Writer.refused.Goals as goal

pub returns : goal.returns
unfolding refused
returns c = search then-both
