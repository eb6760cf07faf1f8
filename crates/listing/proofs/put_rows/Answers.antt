-- What is left to write are the rows that are not yet drawn.
use native.Mathlib.Nat.{add-sub_cancel}
use native.Mathlib.Omega.{arith}
use Rattle.listing.proofs.Rows.{begin, draw_turn, draws_end}
use Rattle.listing.proofs.put_rows.Goals as goal

pub loop-number-init : goal.loop-number-init
loop-number-init c = rw add-sub_cancel begin

pub loop-number-preserved : goal.loop-number-preserved
loop-number-preserved c = search draw_turn

pub returns : goal.returns
returns c = search draws_end

-- after the last row
pub returns-2 : goal.returns-2
returns-2 c = draws_end _ _ _ _ (draw_turn _ _ _ _ c.loop-number.invariant c.loop-number-test.true c.get_float-draw.ensures c.put_row.ensures) (omega arith)
