-- The index and the pattern are one row.
use Rattle.text.proofs.Written.{then-both}
use Rattle.listing.specs.Cues.{row}
use Rattle.listing.proofs.put_sample.Goals as goal

pub returns : goal.returns
unfolding row
returns c = search then-both
