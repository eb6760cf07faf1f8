-- Silence, and what a voice gives to a buffer. Definitions only.
use Rattle.std.specs.Prelude.{ℕ, List, [], ◌∷◌, replicate, Float}
use Rattle.std.proofs.Math.Option.{Option, none, some}
use Rattle.ieee754.specs.Single.{◌⊕◌, decimal}

-- n samples of 0.0
unfoldable pub silence : ℕ → List Float
silence n = replicate n (decimal 0 0)

-- the sums, place by place: nothing is added where the voice gives nothing, or past its end
unfoldable pub mixed : List Float → List (Option Float) → List Float
mixed [] ts = []
mixed (x ∷ xs) [] = x ∷ xs
mixed (x ∷ xs) (none ∷ ts) = x ∷ mixed xs ts
mixed (x ∷ xs) (some y ∷ ts) = x ⊕ y ∷ mixed xs ts
