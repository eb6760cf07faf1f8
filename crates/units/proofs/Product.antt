-- The product of two entries, HIGH[i] and LOW[j], rounded once: a whole number R of units of 2 ^ -34, whose 3072nd power is within one part in 2 ^ 22 of the exact
-- one. Of the four parts in 2 ^ 24 each entry takes less than one, and the rounding two.
use mathlib.Core.Path.{◌≡◌, sym}
use mathlib.Core.Bool.{false}
use Prim.Native.Nat.{ℕ, ◌+◌, ◌*◌, ◌/◌, ◌%◌, ◌^◌, ◌≤◌, ◌<◌, compare}
use native.Mathlib.Nat.{le_of_lt, lt_of_le_of_lt, mul_comm, mul_assoc, mul_left_comm, mul-one, mul-pos, div-mul-le_self, lt-div-mul-add, le-div_iff_mul-le}
use native.Mathlib.Nat.{mul-le-mul, mul-le-mul_left, mul-le-mul_right, mul-lt-mul_of_pos_right, le_of_mul-le-mul_right, lt_of_lt_of_le}
use native.Mathlib.Omega.{arith}
use lib.Dec.{lit<, lit≤}
use lib.IntN.{pos, ◌+ℤ◌}
use lib.ListN.{get_or}
use lib.Pow.{pow-add, pow_pos, shl_lt}
use lib.Ieee.{Float, nan, binary32, size, round}
use lib.Ieee.Digits.{size_reaches}
use lib.Ieee.Exact.{HasValue}
use lib.Ieee.Fits.{nearest-le}
use lib.Ieee.Nearest.{nearest-ge}
use lib.Ieee.Order.{drop, kept}
use lib.Ieee.Scale.{grid, round_same, round_val, grid_scale, normal_of_fraction}
use Rattle.units.specs.Tables.{LUT_PITCH_RATIO_HIGH, LUT_PITCH_RATIO_LOW}
use Rattle.units.specs.Units.{pitch_of, ratio_at}
use Rattle.units.specs.Accuracy.{g, Accurate}
use Rattle.units.proofs.Fractions.{revalued, product}
use Rattle.units.proofs.Powers.{mul-pow, pow-mul, joined}
use Rattle.units.proofs.Entries.{high_entry, low_entry}

-- ---- n / den is rounded to `grid` whole ones, off by less than one in the last of the 24 digits that are kept
module _ (n den : ℕ) (D : 0 < den) (normal : 24 ≤ size (n / den)) where
  abbrev digit : ℕ
  digit = 2 ^ drop 24 n den

  within : let r = kept 24 n den * digit * den in (8388607 * n ≤ 8388608 * r) × (8388608 * r ≤ 8388609 * n)
  within =
      let u = den * digit in
      let small = rw (pow-add 2 23 (drop 24 n den)) at ((le-div_iff_mul-le D).0 (size_reaches (n / den) (23 + drop 24 n den) (omega arith))) in
      let below = div-mul-le_self n u in
      let above = lt-div-mul-add {a = n} {b = u} (mul-pos D (pow_pos (drop 24 n den))) in
      let least = mul-le-mul_right u (nearest-ge (n / u) (compare (n % u * 2) u)) in
      let most = mul-le-mul_right u (nearest-le (n / u) (compare (n % u * 2) u)) in (omega arith, omega arith)

-- ---- q / 2 ^ 57, rounded: in units of 2 ^ -34 that is q / 2 ^ 23, which has 24 digits and more
abbrev rounded : ℕ → ℕ
rounded q = grid binary32 q (2 ^ 172)

module _ (q : ℕ) (Q : 2 ^ 46 ≤ q) (Q' : q < 2 ^ 90) where
  normal : 24 ≤ size (q * 2 ^ 149 / 2 ^ 172)
  normal = normal_of_fraction binary32 q (2 ^ 172) (pow_pos 172) (mul-le-mul_right (2 ^ 149) Q)

  near : (8388607 * q ≤ 8388608 * (rounded q * 2 ^ 23)) × (8388608 * (rounded q * 2 ^ 23) ≤ 8388609 * q)
  near =
      let w = within (q * 2 ^ 149) (2 ^ 172) (pow_pos 172) normal in (
        le_of_mul-le-mul_right {k = 2 ^ 149} (simp mul_assoc (simp mul_assoc at w.0)) (pow_pos 149),
        le_of_mul-le-mul_right {k = 2 ^ 149} (simp mul_assoc (simp mul_assoc at w.1)) (pow_pos 149),
      )

  value : HasValue (round binary32 false q (2 ^ 57)) false (rounded q) (2 ^ 34)
  value =
      let few : rounded q < 2 ^ 70 = omega (arith, near.1) in
      let scaled = grid_scale binary32 q (2 ^ 172) 115 (pow_pos 172) normal in
      let fits = lt_of_lt_of_le (shl_lt 70 115 few) (lit≤ tt) in
      rw (round_same binary32 false q (2 ^ 57) (q * 2 ^ 115) (2 ^ 172) (pow_pos 57) (pow_pos 172) (sym (mul_assoc q (2 ^ 115) (2 ^ 57))))
      (revalued (round binary32 false (q * 2 ^ 115) (2 ^ 172)) (rounded q * 2 ^ 115) (2 ^ 149) (rounded q) (2 ^ 34) (pow_pos 149)
      (mul_assoc (rounded q) (2 ^ 115) (2 ^ 34)) (rw scaled at (round_val binary32 (q * 2 ^ 115) (2 ^ 172) (rw scaled fits))))

-- ---- The bounds of the two entries h and l and of the rounding, multiplied: X / N of an entry, G / H of the rounding, and so Y / M of the result R.
-- l counts in units of 1 / D.
module _ (k N X G H M Y h l R D U W : ℕ) (some : 0 < h * l) (x : 0 < X * (X * D)) (g : 0 < G) (n : 0 < N * N * H) where
  abbrev P : ℕ
  P = X * (X * D) * (G * (h * l) * (N * N * H))

  room : 0 < P
  room = mul-pos x (mul-pos (mul-pos g some) n)

  exact : X * (X * D) * (G * (h * l) * (Y * (N * N * H))) ≡ P * Y
  exact = simp (mul_assoc, mul_comm, mul_left_comm)

  made : N * h * (N * l) * (H * (R * D) * (M * (X * X * G))) ≡ P * (M * R)
  made = simp (mul_assoc, mul_comm, mul_left_comm)

  split : X ^ k * (D ^ k * W) ≡ (X * D) ^ k * W
  split = rw mul-pow (sym (mul_assoc (X ^ k) (D ^ k) W))

  at_least : X ^ k * U ≤ (N * h) ^ k * 1 → X ^ k * (D ^ k * W) ≤ (N * l) ^ k * 1 → G * (h * l) ≤ H * (R * D)
      → Y * (N * N * H) ≤ M * (X * X * G) → Y ^ k * (U * W) ≤ (M * R) ^ k
  at_least a b c d =
      rw (mul-one ((M * R) ^ k)) at (joined k P Y (M * R) X (N * h) (X * D) (N * l) _ _ U 1 W 1 room exact made a (rw split at b) (mul-le-mul c d))

  at_most : (N * h) ^ k * 1 ≤ X ^ k * U → (N * l) ^ k * 1 ≤ X ^ k * (D ^ k * W) → H * (R * D) ≤ G * (h * l)
      → M * (X * X * G) ≤ Y * (N * N * H) → (M * R) ^ k ≤ Y ^ k * (U * W)
  at_most a b c d =
      rw (mul-one ((M * R) ^ k)) at (joined k P (M * R) Y (N * h) X (N * l) (X * D) _ _ 1 U 1 W room made exact a (rw split at b) (mul-le-mul c d))

-- the power that LOW[j] is compared with, in units of 2 ^ -23
lowered : (k j : ℕ) → 2 ^ (23 * k + j) ≡ (2 ^ 23) ^ k * 2 ^ j
lowered k j = rw (pow-add 2 (23 * k) j, pow-mul 2 23 k)

-- n is 3072 times the exponent, plus 104448
pub accurate_at : (semitones : Float) (i j n : ℕ) → pos n ≡ g (pitch_of semitones) +ℤ pos 104448 → 256 * i + 71680 + j ≡ n → i < 256 → j < 256
    → Accurate semitones (ratio_at i j)
accurate_at semitones i j n n_is e hi hj =
    let a = high_entry i hi in
    let b = low_entry j hj in
    let h = a.units in
    let l = b.units in
    let Q = mul-le-mul a.low b.low in
    let Q' = lt_of_le_of_lt (mul-le-mul_left h (le_of_lt b.high)) (mul-lt-mul_of_pos_right a.high (pow_pos 45)) in
    let some = lt_of_lt_of_le (pow_pos 46) Q in
    let r = near (h * l) Q Q' in
    let U = 2 ^ (256 * i + 71680) in
    let x = get_or LUT_PITCH_RATIO_HIGH i nan in
    let y = get_or LUT_PITCH_RATIO_LOW j nan in
    record {
      R = rounded (h * l);
      whole = rw (product binary32 x y h (2 ^ 34) l (2 ^ 23) (pow_pos 34) (pow_pos 23) a.value b.value) (value (h * l) Q Q');
      n = n;
      n_is = n_is;
      least =
          rw (← pow-add 2 (256 * i + 71680) j, e) at
          (at_least 3072 17000000 16999999 8388607 8388608 4194304 4194303 h l (rounded (h * l)) (2 ^ 23) U (2 ^ j) some (lit< tt) (lit< tt) (lit< tt)
          a.least (rw (lowered 3072 j) at b.least) r.0 (lit≤ tt));
      most =
          rw (← pow-add 2 (256 * i + 71680) j, e) at
          (at_most 3072 17000000 17000001 8388609 8388608 4194304 4194305 h l (rounded (h * l)) (2 ^ 23) U (2 ^ j) some (lit< tt) (lit< tt) (lit< tt)
          a.most (rw (lowered 3072 j) at b.most) r.1 (lit≤ tt));
    }
