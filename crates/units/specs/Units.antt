-- utils/units.rs: a pitch in semitones as a ratio of frequencies, line by line as the Rust works it out, and held past the tables' end. Definitions only.
use Rattle.std.specs.Prelude.{ℕ, cond, pos, get_or, Float}
use Rattle.std.specs.Float.{nan, binary32}
use Rattle.std.specs.Float.Ieee.{le, of_int, to_unsigned}
use Rattle.ieee754.specs.Single.{◌⊕◌, ◌⊖◌, ◌⊗◌, decimal}
use Rattle.units.specs.Tables.{LUT_PITCH_RATIO_HIGH, LUT_PITCH_RATIO_LOW}

abbrev pub pitch_of : Float → Float
pitch_of semitones = semitones ⊕ decimal 128 0

-- the product of an entry of `LUT_PITCH_RATIO_HIGH` and one of `LUT_PITCH_RATIO_LOW`: get_or table k nan is the entry at place k
abbrev pub ratio_at : ℕ → ℕ → Float
ratio_at i j = get_or LUT_PITCH_RATIO_HIGH i nan ⊗ get_or LUT_PITCH_RATIO_LOW j nan

-- A pitch of 256.0 or more, where the Rust panics, holds the ratio of the last entries. For one below 256.0 both places are below 256.
-- to_unsigned 64 is `as usize`: toward zero, and 0 for a negative number and for a NaN, so that such a pitch reads the first entry of each table.
-- of_int binary32 is `as f32`.
unfoldable pub ratio : Float → Float
ratio semitones =
    let pitch = pitch_of semitones in
    let pitch_integral = to_unsigned 64 pitch in
    let pitch_fractional = pitch ⊖ of_int binary32 (pos pitch_integral) in
    cond (le (decimal 256 0) pitch)
    (ratio_at 255 255)
    (ratio_at pitch_integral (to_unsigned 64 (pitch_fractional ⊗ decimal 256 0)))
