-- No byte before place i is b.
use Rattle.std.proofs.Common.{eq-eqb}
use Rattle.text.proofs.Lines.{found_at, found_nowhere}
use Rattle.text.proofs.read.find.Goals as goal

pub returns-then-x-b : goal.returns-then-x-b
returns-then-x-b c = found_at _ _ _ c.loop-i.invariant c.loop-i-test.true (eq-eqb _ _ c.if-x-b.true)

pub returns : goal.returns
returns c = found_nowhere _ _ _ c.loop-i.invariant c.loop-i-test.false
