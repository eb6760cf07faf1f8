-- Each arm is a line of the definition.
use native.Mathlib.Omega.{arith}
use Rattle.text.proofs.Written.{then}
use Rattle.listing.specs.Draws.{answer}
use Rattle.listing.proofs.Lengths.{listed}
use Rattle.listing.proofs.draws.Goals as goal
use Rattle.listing.proofs.draws.Goals.{in-Some, in-None}

pub returns : goal.returns
unfolding answer
returns c =
    elim c.match-read_request.branch [
      | in-Some w ↦ rw w.writer-is (listed _ c.read_request.ensures w.in-Some.is (omega arith) (then w.bytes.ensures w.put_rows.ensures).written)
      | in-None w ↦ rw w.writer-is (listed _ c.read_request.ensures w.in-None.is (omega arith) w.refused.ensures.written)
    ]
