-- The rows of a listing, written one after the other.
use Prim.Native.Nat.{ℕ, suc, ◌+◌, ◌-◌, ◌≤◌, ◌<◌}
use native.Mathlib.Numerals.{add-one}
use native.Mathlib.Omega.{arith}
use mathlib.Core.Path.{◌≡◌}
use mathlib.Core.List.{List, [], ◌++◌}
use lib.ListN.{length, get_or, drop, drop_of_length-le}
use lib.Seq.{drop-cons}
use lib.Ieee.{Float, nan}
use Rattle.random.specs.Random.{get_float}
use Rattle.random.specs.declared.Draw.{Draw}
use Rattle.text.specs.Writer.{Writes}
use Rattle.text.specs.declared.write.Writer.{Writer}
use Rattle.text.proofs.Written.{nothing, then}
use Rattle.listing.specs.Cues as Cues
use Rattle.listing.specs.Draws as Draws

-- a loop that writes: what is left, written by `w`, completes the text that `w₀` was to write
pub record Writing (w₀ : Writer) (text left : List ℕ) (w : Writer) : Type 0 where
  pub rest : {w' : Writer} → Writes w left w' → Writes w₀ text w'

pub begin : {w : Writer} {text : List ℕ} → Writing w text text w
begin = record { rest = λ v. v }

turn : {w₀ w w₁ : Writer} {text a b : List ℕ} → Writing w₀ text (a ++ b) w → Writes w a w₁ → Writing w₀ text b w₁
turn g v = record { rest = λ u. g.rest (then v u) }

end : {w₀ w : Writer} {text : List ℕ} → Writing w₀ text [] w → Writes w₀ text w
end g = g.rest nothing

-- ---- samples: the rows of those from i on are left
module _ {w₀ w : Writer} {i : ℕ} (samples : List Float) (g : Writing w₀ (Cues.rows 0 samples) (Cues.rows i (drop i samples)) w) where
  pub sample-turn : i < length samples → {w₁ : Writer} → Writes w (Cues.row i (get_or samples i nan)) w₁
      → Writing w₀ (Cues.rows 0 samples) (Cues.rows (i + 1) (drop (i + 1) samples)) w₁
  unfolding Cues.rows
  sample-turn h v = rw add-one (turn (rw (drop-cons samples i nan h) at g) v)

  pub samples_end : length samples ≤ i → Writes w₀ (Cues.rows 0 samples) w
  unfolding Cues.rows
  samples_end h = end (rw (drop_of_length-le samples {i = i} h) at g)

-- ---- draws: the rows from `number` on are left
module _ {w₀ w : Writer} (state count word number : ℕ)
    (g : Writing w₀ (Draws.rows 1 state count) (Draws.rows number word (count + 1 - number)) w) where
  pub draw_turn : number ≤ count → {draw : Draw} → draw ≡ get_float word → {w₁ : Writer} → Writes w (Draws.row number draw) w₁
      → Writing w₀ (Draws.rows 1 state count) (Draws.rows (number + 1) draw.word (count + 1 - (number + 1))) w₁
  unfolding Draws.rows
  draw_turn h e v =
      let more : count + 1 - number ≡ suc (count + 1 - suc number) = omega arith in
      rw (add-one number) (turn (rw (more, ← e) at g) v)

  pub draws_end : count < number → Writes w₀ (Draws.rows 1 state count) w
  unfolding Draws.rows
  draws_end h = let over : count + 1 - number ≡ 0 = omega arith in end (rw over at g)
