use Rattle.std.proofs.Common.{take}
use Rattle.text.specs.Writer.{Writes}
use Rattle.text.proofs.write.Writer.bytes.Given as goal

abbrev pub invariant-loop-b : goal.invariant-loop-b
invariant-loop-b l = Writes l.initial.self (take l.b-index l.text) l.self
