-- What is found at each `?`, and in the definition.
use Rattle.draw_request.specs.Requests.{both}
use Rattle.draw_request.proofs.Requests.{no_line, one_field, two_fields}
use Rattle.draw_request.proofs.read_request.Goals as goal

pub returns-in_err-without_end : goal.returns-in_err-without_end
returns-in_err-without_end c = rw (c.from_residual.ensures, no_line _ c.in_err-without_end.ensures)

pub returns-in_err-state : goal.returns-in_err-state
returns-in_err-state c = rw (c.from_residual-in_err-state.ensures, one_field _ c.in_ok-without_end.ensures c.in_err-state.ensures)

pub returns-in_err-decimal : goal.returns-in_err-decimal
unfolding both
returns-in_err-decimal c =
    rw (c.from_residual-in_err-decimal.ensures, two_fields _ c.in_ok-without_end.ensures _ _ c.in_ok-state.ensures, ← c.in_err-decimal.ensures)

pub returns-in_err-decimal-2 : goal.returns-in_err-decimal-2
unfolding both
returns-in_err-decimal-2 c =
    rw (c.from_residual-in_err-decimal-2.ensures, two_fields _ c.in_ok-without_end.ensures _ _ c.in_ok-state.ensures)
    (rw (← c.in_ok-decimal.ensures, ← c.in_err-decimal-2.ensures))

pub returns : goal.returns
unfolding both
returns c =
    rw (two_fields _ c.in_ok-without_end.ensures _ _ c.in_ok-state.ensures, ← c.in_ok-decimal.ensures, ← c.in_ok-decimal-2.ensures)
