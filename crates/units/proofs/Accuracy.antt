-- The contract of `semitones_to_ratio`: what the code looks up is the definition's ratio, and the definition's ratio is accurate.
use borrow.Author.Tests.{le-ltb, ne_eqb}
use mathlib.Core.Path.{◌≡◌, refl, sym, ap, ◌∙◌}
use mathlib.Core.Bool.{true, false}
use Prim.Native.Nat.{ℕ, ◌+◌, ◌*◌, ◌%◌}
use native.Mathlib.Omega.{arith}
use lib.Dec.{T, eqb, ltb→lt, eqb→eq}
use lib.IntN.{pos, ◌+ℤ◌, ◌-ℤ◌, +ℤ_assoc, -ℤ-+ℤ_cancel, pos-+ℤ-pos}
use lib.Ieee.{Float, nan, inf, fin, binary32, up, down, round, to_unsigned, le, lt}
use lib.Ieee.Fits.{add-fits, down_pos, and_r}
use Rattle.ieee754.specs.Single.{◌⊗◌, decimal}
use Rattle.units.specs.Units.{pitch_of, ratio_at, ratio}
use Rattle.units.specs.Accuracy.{floor256, Accurate, InTables}
use Rattle.units.proofs.PitchPlaces.{integral, step, Places, places}
use Rattle.units.proofs.Product.{accurate_at}

-- ---- what is below 256 is not 256 or more
apart : (p : Float) → T (lt p (decimal 256 0)) → T (le (decimal 256 0) p) → ⊥
unfolding lt le round
apart nan t h = t
apart (inf true) t h = h
apart (inf false) t h = t
apart (fin true m e) t h = omega (arith, down_pos e, eqb→eq (256 * down e) 0 (and_r (eqb (256 * down e) (m * up e * 1)) (eqb (256 * down e) 0) h))
apart (fin false m e) t h =
    let l = ltb→lt (m * up e * 1) (256 * down e) t in
    rw (le-ltb (256 * down e) (m * up e * 1) (omega arith), ne_eqb (256 * down e) (m * up e * 1) (omega arith)) at h

-- ---- the exponent: g + 104448 is 256 * p without its fraction, plus 71680
exponent : (n : ℕ) → pos (n + 71680) ≡ pos n -ℤ pos 32768 +ℤ pos 104448
exponent n =
    sym (pos-+ℤ-pos n 71680)
    ∙ ap (λ z. z +ℤ pos 71680) (sym (-ℤ-+ℤ_cancel (pos n) (pos 32768)))
    ∙ +ℤ_assoc (pos n -ℤ pos 32768) (pos 32768) (pos 71680)

-- ---- both clauses, of the code's two answers
module _ (semitones : Float) where
  abbrev p : Float
  p = pitch_of semitones

  abbrev Promised : Float → Type 0
  Promised r = (r ≡ ratio semitones) × (InTables p → Accurate semitones r)

  pub held : le (decimal 256 0) p ≡ true → (r : Float) → r ≡ ratio_at 255 255 → Promised r
  unfolding ratio
  held beyond r e = (rw (beyond, e), λ h. absurd (apart p h.1 (rw beyond tt)))

  -- a sum is a value of single precision
  pub pitch_places : le (decimal 256 0) p ≡ false → Places p
  pitch_places = places p (add-fits binary32 semitones (decimal 128 0))

  pub looked_up : le (decimal 256 0) p ≡ false → (r : Float) → r ≡ ratio_at (to_unsigned 64 p) (to_unsigned 64 (p ⊗ decimal 256 0) % 256) → Promised r
  unfolding ratio
  looked_up below r e =
      let at = pitch_places below in
      rw (e, at.remainder, below) (
        refl,
        λ h.
            accurate_at semitones (integral p) (step p) (floor256 p + 71680) (exponent (floor256 p)) (omega (arith, at.floored h.0)) at.integral_below at.step_below,
      )
