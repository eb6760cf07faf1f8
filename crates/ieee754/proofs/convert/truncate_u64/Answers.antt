-- The laws of `Whole`: below 1, past the width, and the significand moved to its place.
use borrow.Author.Tests.{le-leb}
use mathlib.Core.Path.{◌≡◌, ◌∙◌}
use mathlib.Core.Bool.{not}
use Prim.Native.Nat.{◌*◌, ◌%◌, ◌^◌}
use native.Mathlib.Omega.{arith}
use lib.Dec.{T, lit≤}
use lib.Ieee.{binary32, fits, is_nan, to_unsigned}
use Rattle.ieee754.proofs.Fields.{found_nan, no_nan, sign_bit}
use Rattle.ieee754.proofs.Whole.{of_minus, below_one, past_width, moved}
use Rattle.ieee754.proofs.convert.truncate_u64.Goals as goal

pub returns-then-is_nan : goal.returns-then-is_nan
unfolding to_unsigned
returns-then-is_nan c = rw (found_nan _ c.is_nan.ensures.value c.if-is_nan.true)

pub returns-then-bits-ge2147483648 : goal.returns-then-bits-ge2147483648
unfolding to_unsigned
returns-then-bits-ge2147483648 c =
    let held : T (fits binary32 c.args.x) = rw c.well_formed.0.1 tt in
    let number : T (not (is_nan c.args.x)) = no_nan _ c.is_nan.ensures.not_nan c.if-is_nan.false in
    of_minus 64 _ (sign_bit binary32 _ held number ∙ le-leb _ _ c.if-bits-ge2147483648.true)

pub returns-then-exponent-lt127 : goal.returns-then-exponent-lt127
unfolding to_unsigned
returns-then-exponent-lt127 c =
    let held : T (fits binary32 c.args.x) = rw c.well_formed.0.1 tt in
    below_one binary32 _ held c.if-bits-ge2147483648.false 64 c.if-exponent-lt127.true

pub returns-then-exponent-gt190 : goal.returns-then-exponent-gt190
unfolding to_unsigned
returns-then-exponent-gt190 c =
    let held : T (fits binary32 c.args.x) = rw c.well_formed.0.1 tt in
    let number : T (not (is_nan c.args.x)) = no_nan _ c.is_nan.ensures.not_nan c.if-is_nan.false in
    past_width binary32 _ held c.if-bits-ge2147483648.false 64 number c.if-exponent-gt190.true

pub returns : goal.returns
returns c =
    let held : T (fits binary32 c.args.x) = rw c.well_formed.0.1 tt in
    let q = c.significand.result in
    let whole : q * 2 ^ 40 % 2 ^ 64 ≡ q * 2 ^ 40 = omega (arith, c.significand.ensures) in
    rw (whole, c.significand.ensures) (moved binary32 _ held c.if-bits-ge2147483648.false 64 (lit≤ tt) (omega arith) (omega arith) (lit≤ tt))
