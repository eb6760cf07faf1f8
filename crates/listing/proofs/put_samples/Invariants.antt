use lib.ListN.{drop}
use Rattle.listing.specs.Cues.{rows}
use Rattle.listing.proofs.Rows.{Writing}
use Rattle.listing.proofs.put_samples.Given as goal

abbrev pub invariant-loop-i : goal.invariant-loop-i
invariant-loop-i l = Writing l.initial.writer (rows 0 l.samples) (rows l.i (drop l.i l.samples)) l.writer
