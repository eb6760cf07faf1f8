-- drums/hihat.rs: `SquareNoise`. Definitions only.
use Rattle.std.specs.Prelude.{ℕ, ◌+◌, ◌/◌, ◌%◌, ◌^◌, cond, List, [], ◌∷◌, pos, slice_index, slice_index_or, Float}
use Rattle.std.specs.Float.{nan, binary32}
use Rattle.std.specs.Float.Ieee.{le, of_int, to_unsigned}
use Rattle.ieee754.specs.Single.{◌⊖◌, ◌⊗◌, decimal}
use Rattle.block.specs.declared.Turn.{Turn}
use Rattle.hihat.specs.declared.square_noise.SquareNoise.{SquareNoise}

-- a list of six, by place
abbrev pub six : {A : Type 0} → (ℕ → A) → List A
six f = f 0 ∷ f 1 ∷ f 2 ∷ f 3 ∷ f 4 ∷ f 5 ∷ []

abbrev pub init : SquareNoise
init = record { phase = six (λ k. 0) }

unfoldable pub ratios : List Float
ratios = decimal 1 0 ∷ decimal 1304 3 ∷ decimal 1466 3 ∷ decimal 1787 3 ∷ decimal 1932 3 ∷ decimal 2536 3 ∷ []

-- `(f * 4294967296.0) as u32`, with f held at 0.499: a negative f and a NaN give 0
unfoldable pub increment : Float → Float → ℕ
increment f0 ratio =
    let f = f0 ⊗ ratio in
    to_unsigned 32 (cond (le (decimal 499 3) f) (decimal 499 3) f ⊗ decimal 4294967296 0)

unfoldable pub increments : Float → List ℕ
increments f0 = six (λ k. increment f0 (slice_index_or ratios k nan))

-- `wrapping_add`, at each place
unfoldable pub advanced : List ℕ → List ℕ → List ℕ
advanced phase increment = six (λ k. (slice_index phase k + slice_index increment k) % 2 ^ 32)

-- `noise += phase[0] >> 31;`, and so on
abbrev pub high : List ℕ → ℕ → ℕ
high phase k = slice_index phase k / 2 ^ 31

abbrev pub count_high : List ℕ → ℕ
count_high phase = high phase 0 + high phase 1 + high phase 2 + high phase 3 + high phase 4 + high phase 5

-- `*sample_out = 0.33 * ((noise) as f32 - 1.0);`
unfoldable pub level : List ℕ → Float
level phase = decimal 33 2 ⊗ (of_int binary32 (pos (count_high phase)) ⊖ decimal 1 0)

-- one turn of the loop: the phases step, and then the sample is made
abbrev pub turn : List ℕ → SquareNoise → Turn SquareNoise
turn increment s =
    let phase = advanced s.phase increment in
    record { sample = level phase; next = record { phase = phase } }
