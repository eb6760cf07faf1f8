-- The first line ends after the first line end, or where the text ends.
use Rattle.std.proofs.Common.{refl, sym, ◌∙◌}
use Rattle.std.proofs.Math.Seq.{drop-length}
use Rattle.text.proofs.Lines.{line_found, line_none}
use Rattle.text.proofs.read.split_line.Goals as goal

pub returns-in-Some : goal.returns-in-Some
returns-in-Some c =
    let first = line_found _ c.in-Some.ensures in
    record { first = c.split_at.ensures.front ∙ first.0; rest = rw (← first.1) c.split_at.ensures.back }

pub returns-in-None : goal.returns-in-None
returns-in-None c = rw (← line_none _ c.in-None.ensures) record { first = refl; rest = sym (drop-length c.args.text.now) }
