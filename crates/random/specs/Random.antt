-- utils/random.rs. Definitions only.
use Rattle.std.specs.Prelude.{ℕ, ◌+◌, ◌*◌, ◌%◌, ◌^◌, pos}
use Rattle.std.specs.Float.{binary32}
use Rattle.std.specs.Float.Ieee.{of_int}
use Rattle.ieee754.specs.Single.{◌⊘◌, decimal}
use Rattle.random.specs.declared.Draw.{Draw}

unfoldable pub get_word : ℕ → ℕ
get_word state = (state * 1664525 + 1013904223) % 2 ^ 32

-- the word rounded to an f32, and divided by 2^32: from 0.0 to 1.0, both included
unfoldable pub get_float : ℕ → Draw
get_float state = let word = get_word state in record { word = word; value = of_int binary32 (pos word) ⊘ decimal 4294967296 0 }
