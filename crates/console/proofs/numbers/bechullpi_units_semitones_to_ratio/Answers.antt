-- The call's first clause.
use Rattle.console.proofs.numbers.bechullpi_units_semitones_to_ratio.Goals as goal

pub returns : goal.returns
returns c = c.semitones_to_ratio.ensures.value
