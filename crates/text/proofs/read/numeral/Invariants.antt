use Rattle.text.proofs.Numeral.{Reading}
use Rattle.text.proofs.read.numeral.Given as goal

abbrev pub invariant-loop-b : goal.invariant-loop-b
invariant-loop-b l = Reading l.base l.limit l.text l.n l.b-index
