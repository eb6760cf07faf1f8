-- A NaN's pattern is the format's own.
use lib.Ieee.{to_bits}
use Rattle.ieee754.proofs.Fields.{found_nan}
use Rattle.ieee754.proofs.pattern.to_bits.Goals as goal

pub returns-then-is_nan : goal.returns-then-is_nan
unfolding to_bits
returns-then-is_nan c = rw (found_nan _ c.is_nan.ensures.value c.if-is_nan.true)
