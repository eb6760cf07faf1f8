-- The law of `SmallestUnits`: nothing is shifted out, and the pattern is no NaN's.
use mathlib.Core.Path.{◌≡◌}
use Prim.Native.Nat.{◌+◌, ◌*◌, ◌%◌, ◌^◌, ◌≤◌}
use native.Mathlib.Nat.{lt_of_le_of_lt, mul-le-mul}
use native.Mathlib.Omega.{arith}
use lib.Dec.{lit<, le→leb}
use lib.Pow.{pow_mono}
use lib.Ieee.{binary32}
use Rattle.ieee754.proofs.NotANumber.{number_bits}
use Rattle.ieee754.proofs.SmallestUnits.{packed_is}
use Rattle.ieee754.proofs.pattern.packed.Goals as goal

-- nothing is shifted out
unshifted : (c : goal.Start) → let k = c.args.place in k * 2 ^ 23 % 2 ^ 32 ≡ k * 2 ^ 23
unshifted c = omega arith

pub returns : goal.returns
returns c = rw (unshifted c) (packed_is binary32 _ _ c.requires.full c.requires.few (lt_of_le_of_lt (mul-le-mul c.requires.few (pow_mono c.requires.place_fits)) (lit< tt)))

pub float_from_bits-result : goal.float_from_bits-result
float_from_bits-result c =
    let n = c.args.place * 2 ^ 23 + c.args.digits in
    let h : n % 2 ^ 31 ≤ 2139095040 = omega arith in
    rw (unshifted c, ← number_bits n) (le→leb _ _ h)
