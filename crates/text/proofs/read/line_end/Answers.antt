-- Past the end nothing is left.
use Rattle.std.proofs.Common.{drop_of_length-le, arith, refl}
use Rattle.text.specs.Read.{line_at, first_line, lines}
use Rattle.text.proofs.Lines.{left}
use Rattle.text.proofs.read.line_end.Goals as goal

pub returns-then-at-text : goal.returns-then-at-text
unfolding line_at first_line lines
returns-then-at-text c = rw (drop_of_length-le c.args.text.now {i = c.args.at} (omega (arith, c.if-at-text.true))) (omega arith)

pub returns : goal.returns
unfolding line_at
returns c = rw (c.split_line.ensures.first, left c.args.at c.args.text.now) refl
