-- The number, the word and the pattern are one row.
use Rattle.text.proofs.Written.{then-both}
use Rattle.listing.specs.Draws.{row}
use Rattle.listing.proofs.put_row.Goals as goal

pub returns : goal.returns
unfolding row
returns c = search then-both
