-- The first field ends at the first comma.
use Rattle.text.proofs.Lines.{field_found, field_none}
use Rattle.text.proofs.read.split_field.Goals as goal

pub returns-in_err-comma : goal.returns-in_err-comma
returns-in_err-comma c = rw c.from_residual.ensures (field_none _ c.in_err-comma.ensures)

pub returns : goal.returns
returns c = field_found _ c.in_ok-comma.ensures
