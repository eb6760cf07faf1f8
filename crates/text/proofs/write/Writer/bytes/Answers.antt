-- The text up to the next byte is the text before it and that byte.
use Rattle.std.proofs.lemmas.List.{take_more}
use Rattle.text.proofs.Written.{then}
use Rattle.text.proofs.write.Writer.bytes.Goals as goal

pub loop-b-preserved : goal.loop-b-preserved
loop-b-preserved c = rw (take_more c.args.text.now c.loop-b.b-index 0 c.loop-b-test.true) (then c.loop-b.invariant c.byte.ensures)
