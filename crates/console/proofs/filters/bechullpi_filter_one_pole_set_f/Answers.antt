-- The equations of the two calls, joined.
use Rattle.console.proofs.filters.bechullpi_filter_one_pole_set_f.Goals as goal

pub returns : goal.returns
returns c = cc
