-- The equations of the two calls, joined.
use Rattle.console.proofs.filters.bechullpi_filter_svf_process.Goals as goal

pub returns : goal.returns
returns c = cc
