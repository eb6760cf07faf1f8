-- The equations of the two calls, joined.
use Rattle.console.proofs.filters.bechullpi_filter_svf_set_f_q.Goals as goal

pub returns : goal.returns
returns c = cc
