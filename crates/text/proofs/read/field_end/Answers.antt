-- Where no comma is left the field ends with the line.
use Rattle.std.proofs.Common.{arith, eqb, drop, length-drop}
use Rattle.text.proofs.Lines.{place_none, left}
use Rattle.text.proofs.read.field_end.Goals as goal

pub returns-in-None-clause-value : goal.returns-in-None-clause-value
returns-in-None-clause-value c =
    let rest = left c.args.at c.args.line.now in
    let none = place_none (λ x. eqb x 44) (drop c.args.at c.args.line.now) (rw rest at c.in-None.ensures) in
    omega (arith, none, length-drop c.args.at c.args.line.now, c.if-at-line.false)
