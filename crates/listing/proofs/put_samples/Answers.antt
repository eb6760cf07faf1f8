-- What is left to write are the rows of the samples from i on.
use Rattle.listing.proofs.Rows.{sample-turn, samples_end}
use Rattle.listing.proofs.put_samples.Goals as goal

pub loop-i-preserved : goal.loop-i-preserved
loop-i-preserved c = search sample-turn

pub returns : goal.returns
returns c = search samples_end
