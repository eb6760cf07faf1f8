-- The two places that a pitch p below 256 reads: i, which is p without its fraction, and j, which is 256 * (p - i) without its fraction.
-- Both are below 256, so each table has an entry there. p - i and 256 * (p - i) are exact, so 256 * i + j is 256 * p without its fraction.
-- Where p has a minus sign or is a NaN, i and j are 0. The code takes j from 256 * p at once, as its remainder by 256.
use mathlib.Core.Path.{◌≡◌, refl, sym, ap, ◌∙◌, subst}
use mathlib.Core.Bool.{true, false, ◌&&◌, true≢false}
use Prim.Native.Nat.{ℕ, zero, suc, ◌+◌, ◌-◌, ◌*◌, ◌/◌, ◌%◌, ◌^◌, ◌≤◌, ◌<◌}
use native.Mathlib.Nat.{le_trans, le_of_lt, lt_of_le_of_lt, lt_of_lt_of_le, lt_of_not-le, not-le_of_lt, pow-suc}
use native.Mathlib.Nat.{mul_comm, mul_assoc, mul_left_comm, mul-one, min-eq_left, mod-lt, mod-le, mod-eq-sub-div-mul}
use native.Mathlib.Nat.{div-add-mod', div-mul-le_self, div-lt_iff_lt-mul, mul-add-div_right, zero-div}
use native.Mathlib.Omega.{arith}
use lib.Dec.{T, ltb, leb, eqb, ltb→lt, leb→le, eqb→eq, lit<, lit≤}
use lib.IntN.{ℤ, pos, negsuc}
use lib.Pow.{pow-add, pow_pos, pow-lt, pow_mono, shl_lt}
use lib.Ieee.{Float, nan, inf, fin, binary32, up, down, round, sum, sub, mul, of_int, to_unsigned, le, fits}
use lib.Ieee.Fits.{down_pos, and_l, and_r}
use lib.Ieee.Exact.{HasValue, round_exact}
use lib.Ieee.Back.{round_whole}
use lib.Ieee.Order.{le_of_values}
use Rattle.ieee754.specs.Operations.{is_sign_minus}
use Rattle.ieee754.specs.Single.{◌⊖◌, ◌⊗◌, decimal}
use Rattle.ieee754.proofs.Numbers.{pow_split}
use Rattle.ieee754.proofs.Signs.{round_sign}
use Rattle.ieee754.proofs.Whole.{unsigned_of_value, of_minus}
use Rattle.units.specs.Accuracy.{floor256}
use Rattle.units.proofs.Fractions.{less_whole, product}

-- ---- i and j, as the Rust works them out
abbrev pub integral : Float → ℕ
integral p = to_unsigned 64 p

abbrev pub step : Float → ℕ
step p = to_unsigned 64 ((p ⊖ of_int binary32 (pos (integral p))) ⊗ decimal 256 0)

-- 256 * p without its fraction
abbrev place : Float → ℕ
place p = to_unsigned 64 (p ⊗ decimal 256 0)

pub record Places (p : Float) : Type 0 where
  pub integral_below : integral p < 256
  pub step_below : step p < 256
  pub remainder : place p % 256 ≡ step p
  pub floored : T (le (decimal 0 0) p) → 256 * integral p + step p ≡ floor256 p

-- ---- a minus sign, and a NaN
zeros : (p : Float) → integral p ≡ 0 → step p ≡ 0 → place p ≡ 0 → (T (le (decimal 0 0) p) → 0 ≡ floor256 p) → Places p
zeros p i j n z = record { integral_below = rw i (lit< tt); step_below = rw j (lit< tt); remainder = rw (j, n); floored = λ h. rw (j, i) (z h) }

-- 256 * x keeps a minus sign
minus_times : (x : Float) → is_sign_minus x ≡ true → to_unsigned 64 (x ⊗ decimal 256 0) ≡ 0
unfolding mul round is_sign_minus to_unsigned
minus_times nan h = refl
minus_times (inf s) h = rw h
minus_times (fin s m e) h = rw h (sym (of_minus 64 (fin true m e ⊗ decimal 256 0) (round_sign binary32 true (m * up e * 256) (down e * 1))))

-- of what has a minus sign only -0 is at least 0
minus_zero_place : (m : ℕ) (e : ℤ) → T (le (decimal 0 0) (fin true m e)) → 0 ≡ 256 * (m * up e) / down e
unfolding le round
minus_zero_place m e t =
    let z : 256 * (m * up e) ≡ 0 = omega (arith, eqb→eq (0 * down e) (m * up e * 1) (and_l (eqb (0 * down e) (m * up e * 1)) (eqb (0 * down e) 0) t)) in
    sym (ap (λ (k : ℕ). k / down e) z ∙ zero-div (down e))

-- ---- Without a minus sign: m * 2 ^ e is m * up e / down e, of at most 24 digits, where down e divides 2 ^ 149.
-- a value below 65536 without its fraction
cut : (x : Float) (a c : ℕ) → 0 < c → HasValue x false a c → a / c < 65536 → to_unsigned 64 x ≡ a / c
cut x a c C v h = unsigned_of_value 64 x a c C v ∙ min-eq_left (le_trans (le_of_lt h) (lit≤ tt))

module _ (m : ℕ) (e : ℤ) (h : m * up e < 256 * down e) (small : m * up e < 2 ^ 24) (n : ℕ) (N : n ≤ 149) (goes : 2 ^ n * down e ≡ 2 ^ 149) where
  abbrev whole : ℕ
  whole = m * up e / down e

  abbrev rest : ℕ
  rest = m * up e % down e

  whole_below : whole < 256
  whole_below = (div-lt_iff_lt-mul (down_pos e)).1 h

  rest_below : rest * 256 / down e < 256
  rest_below = (div-lt_iff_lt-mul (down_pos e)).1 (omega (arith, mod-lt (m * up e) (down_pos e)))

  parted : m * up e * 256 / down e ≡ 256 * whole + rest * 256 / down e
  parted =
      let a : m * up e * 256 ≡ 256 * whole * down e + rest * 256 = omega (arith, div-add-mod' (m * up e) (down e)) in
      ap (λ (z : ℕ). z / down e) a ∙ mul-add-div_right (down_pos e) (256 * whole) (rest * 256)

  -- r / down e is exact, and so is 256 times it
  exact : (r k : ℕ) → r < 2 ^ 24 → k ≤ 8 → HasValue (round binary32 false (r * 2 ^ k) (down e)) false (r * 2 ^ k) (down e)
  exact r k R K =
      round_exact binary32 false (r * 2 ^ k) (down e) r (n + k) (down_pos e) R
      (lt_of_lt_of_le (shl_lt 24 (n + k) R) (pow_mono {i = 24 + (n + k)} {j = 277} (omega arith)))
      (rw (← goes) (simp (pow-add, mul_assoc, mul_comm, mul_left_comm)))

  times : (y : Float) (r : ℕ) → r < 2 ^ 24 → HasValue y false r (down e) → r * 256 / down e < 65536 → to_unsigned 64 (y ⊗ decimal 256 0) ≡ r * 256 / down e
  times y r R v =
      let c = round_whole binary32 false 256 (lit≤ tt) in
      cut (y ⊗ decimal 256 0) (r * 256) (down e) (down_pos e)
      (rw (product binary32 y (decimal 256 0) r (down e) 256 1 (down_pos e) (lit< tt) v c, mul-one) (exact r 8 R (lit≤ tt)))

  integral_is : integral (fin false m e) ≡ whole
  integral_is = cut (fin false m e) (m * up e) (down e) (down_pos e) (refl, refl) (lt_of_lt_of_le whole_below (lit≤ tt))

  place_is : place (fin false m e) ≡ 256 * whole + rest * 256 / down e
  place_is = times (fin false m e) (m * up e) small (refl, refl) (rw parted (omega (arith, whole_below, rest_below))) ∙ parted

  whole-value : HasValue (of_int binary32 (pos whole)) false whole 1
  unfolding of_int
  whole-value = round_whole binary32 false whole (le_trans (le_of_lt whole_below) (lit≤ tt))

  rest_small : rest < 2 ^ 24
  rest_small = lt_of_le_of_lt (mod-le (m * up e) (down e)) small

  difference : HasValue (fin false m e ⊖ of_int binary32 (pos whole)) false rest (down e)
  difference =
      rw (less_whole binary32 m e _ whole whole-value (div-mul-le_self (m * up e) (down e)), ← mod-eq-sub-div-mul (m * up e) (down e))
      (rw mul-one at (exact rest 0 rest_small (omega arith)))

  step_is : step (fin false m e) ≡ rest * 256 / down e
  step_is = rw integral_is (times _ rest rest_small difference (lt_of_lt_of_le rest_below (lit≤ tt)))

  plus : Places (fin false m e)
  plus =
      record {
        integral_below = rw integral_is whole_below;
        step_below = rw step_is rest_below;
        remainder = rw (step_is, place_is) (omega (arith, rest_below));
        floored = λ _. rw (step_is, integral_is, mul_comm 256 (m * up e)) (sym parted);
      }

-- ---- both places of any pitch below 256
below : (m : ℕ) (e : ℤ) → le (decimal 256 0) (fin false m e) ≡ false → m * up e < 256 * down e
below m e h =
    lt_of_not-le (λ (g : 256 * down e ≤ m * up e).
    let c = round_whole binary32 false 256 (lit≤ tt) in
    subst T h (le_of_values (decimal 256 0) (fin false m e) 256 1 (m * up e) (down e) (lit< tt) (down_pos e) c (refl, refl) (rw (mul-one (m * up e)) g)))

pub places : (p : Float) → T (fits binary32 p) → le (decimal 256 0) p ≡ false → Places p
unfolding le sub sum mul round to_unsigned of_int is_sign_minus fits
places nan t h = zeros nan refl refl refl (λ z. absurd z)
places (inf true) t h = zeros (inf true) refl refl refl (λ z. absurd z)
places (inf false) t h = absurd (true≢false h)
places (fin true m e) t h =
    let less = minus_times (fin true m e ⊖ decimal 0 0) (round_sign binary32 true (m * up e * 1 + 0 * 1 * down e) (down e * 1)) in
    zeros (fin true m e) refl less (minus_times (fin true m e) refl) (minus_zero_place m e)
places (fin false m (pos k)) t h = let b = below m (pos k) h in plus m (pos k) b (lt_of_lt_of_le b (lit≤ tt)) 149 (lit≤ tt) refl
places (fin false zero (negsuc k)) t h = absurd (omega (arith, eqb→eq (1 * 2 ^ suc k) 1 t, pow-suc 2 k, pow_pos k))
places (fin false (suc m) (negsuc k)) t h =
    let a = eqb (suc m % 2) 1 in
    let b = ltb (suc m) (2 ^ 24) in
    let c = leb (2 ^ suc k) (2 ^ 149) in
    let three = and_l (a && b && c) (ltb (suc m * 1) (2 ^ 128 * 2 ^ suc k)) t in
    let deep = leb→le (2 ^ suc k) (2 ^ 149) (and_r (a && b) c three) in
    let n : suc k ≤ 149 = omega (arith, lt_of_not-le (λ (g : 150 ≤ suc k). not-le_of_lt (pow-lt g) deep)) in
    plus (suc m) (negsuc k) (below (suc m) (negsuc k) h) (rw mul-one (ltb→lt (suc m) (2 ^ 24) (and_r a b (and_l (a && b) c three)))) (149 - suc k) (omega arith)
    (sym (pow_split (suc k) 149 n))
