-- The digits before place i stand for n; one more keeps n within 64 bits.
use Rattle.text.proofs.Numeral.{end, no_digit, too_high, too_large, turn}
use Rattle.text.proofs.read.numeral.Goals as goal

pub returns-in_err-d : goal.returns-in_err-d
returns-in_err-d c = rw c.from_residual.ensures (no_digit c.loop-b.invariant c.loop-b-test.true c.in_err-d.ensures)

pub returns-then-base-d : goal.returns-then-base-d
returns-then-base-d c = let here = c.in_ok-d.ensures in search too_high

pub returns-then-n-limit : goal.returns-then-n-limit
returns-then-n-limit c = let here = c.in_ok-d.ensures in search too_large

pub loop-b-preserved : goal.loop-b-preserved
loop-b-preserved c = let here = c.in_ok-d.ensures in search turn

pub returns : goal.returns
returns c = search end
