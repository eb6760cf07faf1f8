-- The number and the byte are one text.
use Rattle.text.proofs.Written.{then}
use Rattle.text.proofs.write.Writer.number.Goals as goal

pub returns : goal.returns
returns c = search then
