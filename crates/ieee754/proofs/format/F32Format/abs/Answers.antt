-- A mask without the highest digit clears the sign (`Fields`).
use lib.Bits.{and_mask}
use lib.Ieee.{binary32}
use Rattle.ieee754.proofs.Fields.{found_nan, no_nan, abs_nan, sign_cleared, cleared_number}
use Rattle.ieee754.proofs.format.F32Format.abs.Goals as goal

pub returns-then-is_nan : goal.returns-then-is_nan
returns-then-is_nan c = abs_nan (found_nan _ c.is_nan.ensures.value c.if-is_nan.true)

pub float_from_bits-result : goal.float_from_bits-result
float_from_bits-result c = rw (and_mask _ 31) (cleared_number binary32 _ (rw c.well_formed.0.1 tt) (no_nan _ c.is_nan.ensures.not_nan c.if-is_nan.false))

pub returns-else-is_nan : goal.returns-else-is_nan
returns-else-is_nan c = rw (and_mask _ 31) (sign_cleared binary32 _ (rw c.well_formed.0.1 tt) (no_nan _ c.is_nan.ensures.not_nan c.if-is_nan.false))
