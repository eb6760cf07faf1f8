-- A list of five by its places, which is what the library says of an array that a closure fills.
use Rattle.std.proofs.Common.{◌≡◌, refl, ℕ, ◌<◌, length, List, [], ◌∷◌, arith, slice_index_or}
use Rattle.analog_snare_drum.specs.AnalogSnareDrum.{modes}

pub by_place : {A : Type 0} (d : A) (f : ℕ → A) (ys : List A) → length ys ≡ 5 → ((k : ℕ) → k < 5 → slice_index_or ys k d ≡ f k) → ys ≡ modes f
by_place d f (a ∷ b ∷ c ∷ d' ∷ e ∷ []) long at =
    rw (at 0 (omega arith), at 1 (omega arith), at 2 (omega arith), at 3 (omega arith), at 4 (omega arith)) refl
by_place d f [] long at = absurd (omega arith)
by_place d f (a ∷ []) long at = absurd (omega arith)
by_place d f (a ∷ b ∷ []) long at = absurd (omega arith)
by_place d f (a ∷ b ∷ c ∷ []) long at = absurd (omega arith)
by_place d f (a ∷ b ∷ c ∷ d' ∷ []) long at = absurd (omega arith)
by_place d f (a ∷ b ∷ c ∷ d' ∷ e ∷ g ∷ ys) long at = absurd (omega arith)
