-- A test that every entry of a table passes, worked out once for the whole table, holds at each place.
use mathlib.Core.Bool.{Bool, true, ◌&&◌}
use mathlib.Core.List.{List, [], ◌∷◌}
use Prim.Native.Nat.{ℕ, zero, suc, ◌<◌}
use native.Mathlib.Nat.{le_of_suc-le-suc, not-suc-le-zero}
use lib.Dec.{T}
use lib.ListN.{length, get_or}
use lib.Ieee.{Float, nan}
use lib.Ieee.Fits.{and_l, and_r}

-- the test of each place and the entry there
abbrev pub every : (ℕ → Float → Bool) → List Float → Bool
every test [] = true
every test (x ∷ xs) = test 0 x && every (λ k. test (suc k)) xs

pub at : (test : ℕ → Float → Bool) (xs : List Float) → T (every test xs) → (k : ℕ) → k < length xs → T (test k (get_or xs k nan))
at test [] t k h = absurd (not-suc-le-zero h)
at test (x ∷ xs) t zero h = and_l (test 0 x) (every (λ k. test (suc k)) xs) t
at test (x ∷ xs) t (suc k) h = at (λ k. test (suc k)) xs (and_r (test 0 x) (every (λ k. test (suc k)) xs) t) k (le_of_suc-le-suc h)
