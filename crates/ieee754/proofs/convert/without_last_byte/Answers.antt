-- The laws of `Whole` for a quotient by 256; the masks are remainders.
use mathlib.Core.Path.{◌≡◌, sym}
use Prim.Native.Nat.{ℕ, ◌/◌, ◌%◌}
use native.Mathlib.Omega.{arith}
use lib.Bits.{bit_and, and_mask}
use Rattle.ieee754.proofs.Whole.{closest_up, closest_down}
use Rattle.ieee754.proofs.convert.without_last_byte.Goals as goal

-- what the test adds up
masks : (n : ℕ) → (bit_and n 255 ≡ n % 256) × (bit_and (n / 256) 1 ≡ n / 256 % 2)
masks n = (and_mask n 8, and_mask (n / 256) 1)

pub returns-then-rest-kept-gt128 : goal.returns-then-rest-kept-gt128
returns-then-rest-kept-gt128 c = sym (closest_up _ 256 (omega (arith, masks c.args.n)))

pub returns-else-rest-kept-gt128 : goal.returns-else-rest-kept-gt128
returns-else-rest-kept-gt128 c = sym (closest_down _ 256 (omega (arith, masks c.args.n)))
