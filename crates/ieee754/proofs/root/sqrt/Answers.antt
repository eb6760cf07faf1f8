-- The operands of `Cut`, one by one.
use borrow.Author.Tests.{le-leb}
use mathlib.Core.Path.{◌≡◌, refl, sym, ap, ◌∙◌}
use mathlib.Core.Bool.{false, true≢false}
use Prim.Native.Nat.{◌<◌}
use native.Mathlib.Nat.{pos_of_ne-zero}
use native.Mathlib.Omega.{arith}
use lib.Dec.{T}
use lib.Ieee.{Float, binary32, fits, of_bits, to_bits, eq}
use lib.Ieee.Bits.{of_bits-to_bits}
use Rattle.ieee754.specs.Root.{sqrt}
use Rattle.ieee754.proofs.Fields.{found_nan, no_nan, sign_bit, infinite}
use Rattle.ieee754.proofs.root.Cut.{of_zero, of_minus}
use Rattle.ieee754.proofs.root.sqrt.Goals as goal

-- what does not equal 0 has another pattern
above_zero : (x : Float) → T (fits binary32 x) → eq x (of_bits binary32 0) ≡ false → 0 < to_bits binary32 x
unfolding of_bits eq
above_zero x held unlike =
    pos_of_ne-zero (λ e.
    let zero : x ≡ of_bits binary32 0 = sym (of_bits-to_bits binary32 x held) ∙ ap (of_bits binary32) e in
    true≢false (rw zero at unlike))

pub returns-then-is_nan : goal.returns-then-is_nan
unfolding sqrt
returns-then-is_nan c = rw (found_nan _ c.is_nan.ensures.value c.if-is_nan.true)

pub returns-then-x : goal.returns-then-x
unfolding of_bits
returns-then-x c = of_zero binary32 _ c.if-x.true

pub returns-then-bits-ge2147483648 : goal.returns-then-bits-ge2147483648
unfolding of_bits
returns-then-bits-ge2147483648 c =
    sym (of_minus binary32 _ (sign_bit binary32 _ (rw c.well_formed.0.1 tt) (no_nan _ c.is_nan.ensures.not_nan c.if-is_nan.false) ∙ le-leb _ _ c.if-bits-ge2147483648.true) c.if-x.false)

pub returns-then-bits-ge2139095040 : goal.returns-then-bits-ge2139095040
unfolding sqrt
returns-then-bits-ge2139095040 c = rw (infinite binary32 _ (rw c.well_formed.0.1 tt) c.if-bits-ge2147483648.false (no_nan _ c.is_nan.ensures.not_nan c.if-is_nan.false) (omega arith))

pub root_of_pattern-requires : goal.root_of_pattern-requires
root_of_pattern-requires c = record { above_zero = above_zero _ (rw c.well_formed.0.1 tt) c.if-x.false; finite = c.if-bits-ge2139095040.false }

pub returns : goal.returns
returns c = c.root_of_pattern.ensures _ (rw c.well_formed.0.1 tt) refl
