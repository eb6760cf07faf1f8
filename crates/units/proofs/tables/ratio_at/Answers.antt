-- The statics are the definition's tables, entry by entry.
use mathlib.Core.Path.{refl}
use lib.Ieee.{round, of_bits}
use Rattle.units.specs.Tables.{LUT_PITCH_RATIO_HIGH, LUT_PITCH_RATIO_LOW}
use Rattle.units.proofs.tables.ratio_at.Goals as goal

pub returns : goal.returns
unfolding LUT_PITCH_RATIO_HIGH LUT_PITCH_RATIO_LOW round of_bits
returns c = refl
