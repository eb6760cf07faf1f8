-- Eight digits stand for less than 2^32, so the limit asks nothing.
use Rattle.std.proofs.Common.{eq-eqb, ne_eqb}
use Rattle.text.specs.Read.{pattern}
use Rattle.text.proofs.Numeral.{eight_digits}
use Rattle.text.proofs.read.pattern.Goals as goal

pub returns-then-text-ne8 : goal.returns-then-text-ne8
unfolding pattern
returns-then-text-ne8 c = search ne_eqb

pub returns : goal.returns
unfolding pattern
returns c = search (eq-eqb, eight_digits)
