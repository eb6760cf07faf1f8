-- The equations of the two calls, joined.
use Rattle.console.proofs.filters.bechullpi_filter_svf_process_buffer.Goals as goal

pub returns-clause-filter : goal.returns-clause-filter
returns-clause-filter c = cc

pub returns-clause-out : goal.returns-clause-out
returns-clause-out c = cc
