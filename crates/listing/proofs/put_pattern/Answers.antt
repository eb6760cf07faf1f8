-- The pattern and the byte are one text.
use Rattle.text.proofs.Written.{then}
use Rattle.listing.proofs.put_pattern.Goals as goal

pub returns : goal.returns
returns c = then (rw c.to_bits.ensures at c.pattern.ensures) c.byte.ensures
