-- How close a ratio is to the power of two of its pitch, cut to a 256th of a semitone, over whole numbers. Definitions only.
use Rattle.std.specs.Prelude.{◌≡◌, false, ℕ, ◌*◌, ◌/◌, ◌^◌, ◌≤◌, T, ℤ, pos, ◌+ℤ◌, ◌-ℤ◌, Float}
use Rattle.std.specs.Float.{nan, inf, fin}
use Rattle.std.specs.Float.Ieee.{up, down, le, lt}
use Rattle.std.specs.Float.Ieee.Exact.{HasValue}
use Rattle.ieee754.specs.Single.{decimal}
use Rattle.units.specs.Units.{pitch_of}

-- 256 * p without its fraction, for a finite p of at least 0: fin s m e is m * 2 ^ e in size, and 2 ^ e is up e / down e
abbrev pub floor256 : Float → ℕ
floor256 nan = 0
floor256 (inf s) = 0
floor256 (fin s m e) = 256 * (m * up e) / down e

-- 3072 times the exponent, an integer
abbrev pub g : Float → ℤ
g p = pos (floor256 p) -ℤ pos 32768

-- The ratio is R / 2 ^ 34 with a whole R, and differs from 2 ^ (g / 3072) by at most one part in 4194304.
-- 104448 is 34 * 3072, and n is g + 104448.
pub record Accurate (semitones ratio : Float) : Type 0 where
  pub R : ℕ
  pub whole : HasValue ratio false R (2 ^ 34)
  pub n : ℕ
  pub n_is : pos n ≡ g (pitch_of semitones) +ℤ pos 104448
  pub least : 4194303 ^ 3072 * 2 ^ n ≤ (4194304 * R) ^ 3072
  pub most : (4194304 * R) ^ 3072 ≤ 4194305 ^ 3072 * 2 ^ n

-- p is at least 0 and below 256
abbrev pub InTables : Float → Type 0
InTables p = T (le (decimal 0 0) p) × T (lt p (decimal 256 0))
