-- The sign aside, a number's pattern is at most that of the infinity.
use Rattle.ieee754.proofs.NotANumber.{number_bits}
use Rattle.ieee754.proofs.pattern.is_number.Goals as goal

pub returns : goal.returns
returns c = number_bits c.args.bits
