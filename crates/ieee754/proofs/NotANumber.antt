-- Patterns of numbers and of not-a-numbers.
use Prim.Native.Nat.{ℕ, ◌<◌, ◌%◌}
use native.Mathlib.Decide.{dec_lt}
use native.Mathlib.Omega.{arith}
use mathlib.Core.Path.{◌≡◌, sym, ◌∙◌}
use mathlib.Core.Bool.{Bool, true, false, not}
use lib.Dec.{ltb, leb}
use lib.Ieee.{nan, Format, binary32, of_bits, nan_bits}
use lib.Ieee.Bits.{nan_bits_is, nan_bits_above}
use borrow.Author.Tests.{lt-ltb, le-ltb, le-leb, lt-leb, not-false}
use Rattle.ieee754.proofs.Fields.{only_nan}

-- a pattern is that of a number where, its sign aside, it is at most that of the infinity
pub number_bits : (bits : ℕ) → leb (bits % 2147483648) 2139095040 ≡ not (nan_bits binary32 bits)
number_bits bits = rw (nan_bits_above binary32 bits) (go (dec_lt 2139095040 (bits % 2147483648)))
  where
    go : Dec (2139095040 < bits % 2147483648) → leb (bits % 2147483648) 2139095040 ≡ not (ltb 2139095040 (bits % 2147483648))
    go (yes h) = rw (lt-ltb 2139095040 (bits % 2147483648) h) (lt-leb (bits % 2147483648) 2139095040 h)
    go (no h) = rw (le-ltb 2139095040 (bits % 2147483648) (omega arith)) (le-leb (bits % 2147483648) 2139095040 (omega arith))

pub nan_of : (f : Format) (bits : ℕ) → nan_bits f bits ≡ true → of_bits f bits ≡ nan
nan_of f bits h = only_nan (of_bits f bits) (sym (nan_bits_is f bits) ∙ h)

-- what the test of a pattern says
module _ (bits : ℕ) {number : Bool} (known : number ≡ not (nan_bits binary32 bits)) where
  pub nan_read : number ≡ false → of_bits binary32 bits ≡ nan
  nan_read h = nan_of binary32 bits (not-false (nan_bits binary32 bits) (sym known ∙ h))
