use Prim.Native.Nat.{◌+◌, ◌-◌}
use Rattle.listing.specs.Draws.{rows}
use Rattle.listing.proofs.Rows.{Writing}
use Rattle.listing.proofs.put_rows.Given as goal

abbrev pub invariant-loop-number : goal.invariant-loop-number
invariant-loop-number l = Writing l.initial.writer (rows 1 l.state l.count) (rows l.number l.word (l.count + 1 - l.number)) l.writer
