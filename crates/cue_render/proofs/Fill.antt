-- A loop that writes a buffer towards a list that is known beforehand, and the blocks that are written so here.
use Prim.Native.Nat.{ℕ, zero, suc, ◌+◌, ◌≤◌, ◌<◌}
use native.Mathlib.Nat.{add-zero}
use native.Mathlib.Omega.{arith}
use mathlib.Core.Path.{◌≡◌, refl, sym, ap, ◌∙◌}
use mathlib.Core.List.{List, [], ◌∷◌, map, append-nil}
use mathlib.Core.Option.{some}
use lib.ListN.{length, get_or, drop, set}
use lib.Seq.{drop-length, get_or-drop}
use lib.Ieee.{Float, nan, binary32, add}
use Rattle.block.specs.declared.Turn.{Turn}
use Rattle.block.specs.Block.{scan}
use Rattle.block.proofs.Blocks.{Going, begin, turn, end}
use Rattle.track.specs.Mix.{mixed}

-- ---- a list is what the stage makes of it that hands every sample on
abbrev pub copy : ℕ → Float → Turn ℕ
copy s x = record { sample = x; next = s }

scan_copy : (s : ℕ) (xs : List Float) → scan copy s xs ≡ xs
unfolding scan
scan_copy s [] = refl
scan_copy s (x ∷ xs) = ap (λ (l : List Float). x ∷ l) (scan_copy s xs)

-- the first i places of out are those of the list, and the others hold what they held
abbrev pub Filling : List Float → List Float → List Float → ℕ → Type 0
Filling xs out₀ out i = Going copy 0 xs out₀ 0 out i

module _ {xs out₀ : List Float} (same : length xs ≡ length out₀) where
  pub fill_begin : Filling xs out₀ out₀ 0
  fill_begin = begin copy 0 xs out₀ (omega (arith, same))

  module _ {out : List Float} {i : ℕ} (g : Filling xs out₀ out i) where
    -- what is written may be made of what the place holds
    pub fill_turn : i < length out → {x : Float} → (i < length out₀ → get_or out i nan ≡ get_or out₀ i nan → get_or xs i nan ≡ x)
        → Filling xs out₀ (set out i x) (i + 1)
    fill_turn h e =
        let at : (l : List Float) → get_or (drop i l) 0 nan ≡ get_or l i nan = λ l. get_or-drop i l 0 nan ∙ ap (λ (k : ℕ). get_or l k nan) (add-zero i) in
        let held = sym (at out) ∙ ap (λ (l : List Float). get_or l 0 nan) g.rest ∙ at out₀ in
        rw (e (omega (arith, g.long)) held) at (turn copy 0 xs out₀ 0 out i g (omega (arith, same, g.long)))

    pub fill_end : length out ≤ i → out ≡ xs
    fill_end h =
        (end copy 0 xs out₀ 0 out i g (omega (arith, same, g.long))).1
        ∙ rw (scan_copy 0 xs, same, drop-length out₀, append-nil xs)

-- ---- sums
pub mixed_at : (xs ys : List Float) (i : ℕ) → i < length xs → length ys ≡ length xs → {x : Float} → x ≡ get_or xs i nan
    → get_or (mixed xs (map some ys)) i nan ≡ add binary32 x (get_or ys i nan)
unfolding mixed
mixed_at [] ys i h same e = absurd (omega arith)
mixed_at (x ∷ xs) [] i h same e = absurd (omega arith)
mixed_at (x ∷ xs) (y ∷ ys) zero h same e = rw e
mixed_at (x ∷ xs) (y ∷ ys) (suc i) h same e = mixed_at xs ys i (omega arith) (omega arith) e
