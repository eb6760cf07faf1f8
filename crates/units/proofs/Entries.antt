-- Each entry of a table is a whole number of units, and within one part in 17,000,000 of the power of two that its place names:
-- HIGH[i] of 2 ^ ((i - 128) / 12) in units of 2 ^ -34, LOW[j] of 2 ^ (j / 3072) in units of 2 ^ -23. One test for both tables, worked out by antt.
use mathlib.Core.Path.{◌≡◌, ap, ◌∙◌}
use mathlib.Core.Bool.{Bool, false, ◌&&◌}
use Prim.Native.Nat.{ℕ, suc, ◌+◌, ◌-◌, ◌*◌, ◌/◌, ◌%◌, ◌^◌, ◌≤◌, ◌<◌}
use native.Mathlib.Nat.{div-add-mod', div-mul-le_self, lt-div-mul-add, mul-pos, mul-le-mul_right}
use native.Mathlib.Omega.{arith}
use lib.Dec.{T, leb, ltb, eqb, leb→le, ltb→lt, eqb→eq, lit<, lit≤}
use lib.ListN.{get_or}
use lib.Pow.{pow_pos}
use lib.Ieee.{Float, nan, round}
use lib.Ieee.Fits.{and_l, and_r}
use lib.Ieee.Exact.{HasValue}
use lib.Ieee.Positive.{num, den, den_pos, positive, own_value}
use Rattle.ieee754.proofs.Numbers.{pow_split}
use Rattle.units.specs.Tables.{LUT_PITCH_RATIO_HIGH, LUT_PITCH_RATIO_LOW}
use Rattle.units.proofs.Table.{at}
use Rattle.units.proofs.Fractions.{revalued}
use Rattle.units.proofs.Powers.{mul-pow, pow-mul, staged}

-- x in units of 2 ^ -k, `units` of them, which is within one part in 17,000,000 of the 3072nd root of 2 ^ e
pub record Entry (k e : ℕ) (x : Float) : Type 0 where
  pub units : ℕ
  pub value : HasValue x false units (2 ^ k)
  pub low : 2 ^ 23 ≤ units
  pub high : units < 2 ^ 45
  pub least : 16999999 ^ 3072 * 2 ^ e ≤ (17000000 * units) ^ 3072 * 1
  pub most : (17000000 * units) ^ 3072 * 1 ≤ 17000001 ^ 3072 * 2 ^ e

-- ---- The root, in two stages: the quotient of 64th powers, less its last `shift e` digits, is compared at the 48th.
abbrev shift : ℕ → ℕ
shift e = e / 48 - 32

abbrev target : ℕ → ℕ
target e = 2 ^ (e - shift e * 48)

abbrev quotient : ℕ → ℕ → ℕ → ℕ
quotient X z e = z ^ 64 / (X ^ 64 * 2 ^ shift e)

shifted : (e : ℕ) → 2 ^ e ≡ target e * (2 ^ shift e) ^ 48
shifted e = pow_split (shift e * 48) e (omega arith) ∙ ap (λ (z : ℕ). target e * z) (pow-mul 2 (shift e) 48)

module _ (X z e : ℕ) where
  least : target e ≤ quotient X z e ^ 48 → X ^ 3072 * 2 ^ e ≤ z ^ 3072 * 1
  least h =
      let p = quotient X z e in
      staged 64 48 X z (p * 2 ^ shift e) 1 (2 ^ e) 1 (omega (arith, div-mul-le_self (z ^ 64) (X ^ 64 * 2 ^ shift e)))
      (rw (shifted e, mul-pow p (2 ^ shift e) 48) (mul-le-mul_right ((2 ^ shift e) ^ 48) h)) (lit≤ tt)

  most : 0 < X ^ 64 * 2 ^ shift e → suc (quotient X z e) ^ 48 ≤ target e → z ^ 3072 * 1 ≤ X ^ 3072 * 2 ^ e
  most room h =
      let p = suc (quotient X z e) in
      staged 64 48 z X 1 (p * 2 ^ shift e) 1 (2 ^ e) (omega (arith, lt-div-mul-add {a = z ^ 64} room)) (lit≤ tt)
      (rw (shifted e, mul-pow p (2 ^ shift e) 48) (mul-le-mul_right ((2 ^ shift e) ^ 48) h))

-- ---- the test of an entry
abbrev count : ℕ → Float → ℕ
count k x = num x * 2 ^ k / den x

abbrev is_whole : ℕ → Float → Bool
is_whole k x = positive x && eqb (num x * 2 ^ k % den x) 0

abbrev is_sized : ℕ → Bool
is_sized a = leb (2 ^ 23) a && ltb a (2 ^ 45)

abbrev is_near : ℕ → ℕ → Bool
is_near e a = leb (target e) (quotient 16999999 (17000000 * a) e ^ 48) && leb (suc (quotient 17000001 (17000000 * a) e) ^ 48) (target e)

abbrev passes : ℕ → ℕ → Float → Bool
passes k e x = is_whole k x && (is_sized (count k x) && is_near e (count k x))

-- the two halves of a test of two
both : (a b : Bool) → T (a && b) → T a × T b
both a b t = (and_l a b t, and_r a b t)

passed : (k e : ℕ) (x : Float) → T (passes k e x) → Entry k e x
passed k e x t =
    let n = num x * 2 ^ k in
    let a = count k x in
    let z = 17000000 * a in
    let p = both (is_whole k x) (is_sized a && is_near e a) t in
    let q = both (is_sized a) (is_near e a) p.1 in
    let whole = both (positive x) (eqb (n % den x) 0) p.0 in
    let sized = both (leb (2 ^ 23) a) (ltb a (2 ^ 45)) q.0 in
    let near = both (leb (target e) (quotient 16999999 z e ^ 48)) (leb (suc (quotient 17000001 z e) ^ 48) (target e)) q.1 in
    record {
      units = a;
      value =
          revalued x (num x) (den x) a (2 ^ k) (den_pos x) (omega (arith, div-add-mod' n (den x), eqb→eq (n % den x) 0 whole.1))
          (own_value x whole.0);
      low = leb→le (2 ^ 23) a sized.0;
      high = ltb→lt a (2 ^ 45) sized.1;
      least = least 16999999 z e (leb→le _ _ near.0);
      most = most 17000001 z e (mul-pos (lit< tt) (pow_pos (shift e))) (leb→le _ _ near.1);
    }

pub high_entry : (i : ℕ) → i < 256 → Entry 34 (256 * i + 71680) (get_or LUT_PITCH_RATIO_HIGH i nan)
unfolding LUT_PITCH_RATIO_HIGH round
high_entry i h = passed 34 _ _ (at (λ i. passes 34 (256 * i + 71680)) LUT_PITCH_RATIO_HIGH tt i h)

pub low_entry : (j : ℕ) → j < 256 → Entry 23 (70656 + j) (get_or LUT_PITCH_RATIO_LOW j nan)
unfolding LUT_PITCH_RATIO_LOW round
low_entry j h = passed 23 _ _ (at (λ j. passes 23 (70656 + j)) LUT_PITCH_RATIO_LOW tt j h)
