-- The whole part of x at 64 digits, held at 32.
use native.Mathlib.Omega.{arith}
use lib.Dec.{lit≤}
use Rattle.ieee754.proofs.Whole.{narrowed}
use Rattle.ieee754.proofs.convert.truncate_u32.Goals as goal

pub returns : goal.returns
returns c = omega (arith, narrowed 32 64 c.args.x (lit≤ tt))
