-- What does not pass the test is read as a NaN.
use lib.Ieee.{of_bits}
use Rattle.ieee754.proofs.NotANumber.{nan_read}
use Rattle.ieee754.proofs.pattern.from_bits.Goals as goal

pub returns-else-is_number : goal.returns-else-is_number
unfolding of_bits
returns-else-is_number c = rw (nan_read _ c.is_number.ensures c.if-is_number.false)
