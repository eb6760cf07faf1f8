-- What `Root.sqrt` means, with no algorithm in it: of all the values of the format it is the one nearest to the root, and no other is as near.
use mathlib.Core.Path.{◌≡◌, ap, ◌∙◌}
use mathlib.Core.Bool.{true, false, true≢false}
use Prim.Native.Nat.{ℕ, suc, ◌+◌, ◌-◌, ◌*◌, ◌^◌, ◌≤◌, ◌<◌, compare}
use native.Mathlib.Nat.{le_trans, le_of_suc-le-suc, lt_of_lt_of_le, lt_of_not-le, not-le_of_lt, pow-succ'}
use native.Mathlib.Nat.{mul-pos, mul-le-mul, mul-le-mul_right, mul-lt-mul_of_pos_right, le-mul_of_pos_right, lt_of_mul-lt-mul_right, eq_of_mul-eq-mul_right}
use native.Mathlib.Decide.{dec_le}
use native.Mathlib.Omega.{arith}
use lib.IntN.{ℤ}
use lib.Dec.{T, ltb→lt, lt→ltb}
use lib.Pow.{pow-add, pow_pos, pow_mono}
use lib.Ieee.{Float, nan, inf, fin, Format, prec, emax, low, up, down, units, fits, lt, hid}
use lib.Ieee.Exact.{HasValue, units_val}
use lib.Ieee.Fits.{nearest-le}
use lib.Ieee.Nearest.{nearest-ge}
use lib.Ieee.Positive.{num, den, positive, den_pos, value→cross, positive_of_value, value_pos}
use Rattle.ieee754.specs.Root.{sqrt, total, RootBelowMiddle, RootAboveMiddle, NearestRoot}
use Rattle.ieee754.proofs.Fields.{twice_hid, emax_two, one_value}
use Rattle.ieee754.proofs.Numbers.{sq_lt_back, pow_split, nearest_by}
use Rattle.ieee754.proofs.SmallestUnits.{InUnits, amount, in_units, units_fit, same_bits}
use Rattle.ieee754.proofs.root.Cut.{Cut, half², rounded, root_of_cut, cut_of, of_value}

-- ---- whole numbers

-- a number d * 2 ^ j above q * 2 ^ k, where d has no more digits than q, is a whole 2 ^ k above it
gap : (h d j q k : ℕ) → d < 2 * h → h ≤ q → q * 2 ^ k < d * 2 ^ j → suc q * 2 ^ k ≤ d * 2 ^ j
gap h d j q k small full l = elim (dec_le k j) [
  | yes g ↦
      let e : d * 2 ^ j ≡ d * 2 ^ (j - k) * 2 ^ k = rw (pow_split k j g) (omega arith) in
      let m : q < d * 2 ^ (j - k) = lt_of_mul-lt-mul_right (2 ^ k) (omega arith) in
      omega (arith, mul-le-mul_right (2 ^ k) m)
  | no g ↦
      let p : 2 * 2 ^ j ≤ 2 ^ k = omega (arith, pow_mono {i = suc j} {j = k} (omega arith)) in
      absurd (omega (arith, mul-lt-mul_of_pos_right small (pow_pos j), mul-le-mul full p))
]

-- no tie: m * 2 ^ i is no odd square times a power of two, if the odd number is above m
no_tie : (m i q k : ℕ) → m < 2 * q + 1 → m * 2 ^ i ≡ (2 * q + 1) * (2 * q + 1) * 2 ^ k → ⊥
no_tie m i q k small e = elim (dec_le i k) [
  | yes g ↦
      let o = (2 * q + 1) * (2 * q + 1) in
      let d : m ≡ o * 2 ^ (k - i) = eq_of_mul-eq-mul_right (2 ^ i) (pow_pos i) m (o * 2 ^ (k - i)) (e ∙ rw (pow_split i k g) (omega arith)) in
      omega (arith, le-mul_of_pos_right o (pow_pos (k - i)))
  | no g ↦
      let o = (2 * q + 1) * (2 * q + 1) in
      let t = i - suc k in
      let p : 2 ^ i ≡ 2 ^ t * 2 * 2 ^ k = pow_split (suc k) i (omega arith) ∙ rw (pow-succ' 2 k) (omega arith) in
      let d : m * 2 ^ t * 2 ≡ o = eq_of_mul-eq-mul_right (2 ^ k) (pow_pos k) (m * 2 ^ t * 2) o (omega (arith, ap (λ (z : ℕ). m * z) p)) in
      omega arith
]

-- ---- values as fractions, and in units of 1 / l

module _ (l a v w : ℕ) (x r y : Float) (X : HasValue x false a l) (R : HasValue r false v l) (Y : HasValue y false w l) where
  abbrev d : ℕ
  d = den r * den y

  sum_is : (v + w) * d ≡ total r y * l
  sum_is = omega (arith, ap (λ (k : ℕ). k * den y) (value→cross r v l R), ap (λ (k : ℕ). k * den r) (value→cross y w l Y))

  square_is : (v + w) * (v + w) * (den x * (d * d)) ≡ total r y * total r y * den x * (l * l)
  square_is = omega (arith, ap (λ (k : ℕ). k * k * den x) sum_is)

  four_is : 4 * (a * l) * (den x * (d * d)) ≡ 4 * num x * (d * d) * (l * l)
  four_is = omega (arith, ap (λ (k : ℕ). k * (l * (d * d))) (value→cross x a l X))

  some : 0 < den x * (d * d)
  some = let D = mul-pos (den_pos r) (den_pos y) in mul-pos (den_pos x) (mul-pos D D)

  below_middle : 4 * (a * l) < (v + w) * (v + w) → RootBelowMiddle x r y
  below_middle h = lt_of_mul-lt-mul_right (l * l) (rw (four_is, square_is) at (mul-lt-mul_of_pos_right h some))

  above_middle : (v + w) * (v + w) < 4 * (a * l) → RootAboveMiddle x r y
  above_middle h = lt_of_mul-lt-mul_right (l * l) (rw (four_is, square_is) at (mul-lt-mul_of_pos_right h some))

-- the order of two values is that of their units
units_lt : (l v w n p : ℕ) (d e : ℤ) → 0 < l → HasValue (fin false n d) false v l → HasValue (fin false p e) false w l → T (lt (fin false n d) (fin false p e)) → v < w
unfolding lt
units_lt l v w n p d e L R Y h =
    let c = mul-lt-mul_of_pos_right (ltb→lt (n * up d * down e) (p * up e * down d) h) L in
    lt_of_mul-lt-mul_right (down d * down e) (omega (arith, c, ap (λ (k : ℕ). k * down e) R.1, ap (λ (k : ℕ). k * down d) Y.1))

-- ---- the rounded root of x is nearest to the root: in units, q * 2 ^ k is the root of x cut to the format's digits, and v is what it is rounded to

module _ (f : Format) (x : Float) (X : InUnits f x) (q k : ℕ) (c : Cut f (amount X) q k) where
  abbrev l : ℕ
  l = 2 ^ low f

  abbrev n : ℕ
  n = amount X * l

  abbrev p : ℕ
  p = rounded f (amount X) q k

  abbrev v : ℕ
  v = p * 2 ^ k

  untied : 4 * n ≡ half² q k → ⊥
  untied e =
      no_tie X.digits (2 + (X.place + low f)) q (k + k) (omega (arith, twice_hid f, X.few, c.full))
      (rw (pow-add 2 2 (X.place + low f), pow-add 2 X.place (low f), pow-add 2 k k) (omega (arith, e)))

  module _ (y : Float) (Y : InUnits f y) where
    abbrev w : ℕ
    w = amount Y

    next : q * 2 ^ k < w → suc q * 2 ^ k ≤ w
    next = gap (hid f) Y.digits Y.place q k (rw (twice_hid f) at Y.few) c.full

    units_above : v < w → 4 * n < (v + w) * (v + w)
    units_above =
        nearest_by (λ p. p * 2 ^ k < w → 4 * n < (p * 2 ^ k + w) * (p * 2 ^ k + w)) q (4 * n) (half² q k)
        (λ less h. let s : (2 * q + 1) * 2 ^ k ≤ q * 2 ^ k + w = omega (arith, next h) in omega (arith, mul-le-mul s s))
        (λ tie h. absurd (untied tie))
        (λ more h. let s : 2 * (suc q * 2 ^ k) ≤ suc q * 2 ^ k + w = omega arith in omega (arith, mul-le-mul s s, c.above))

    units_below : w < v → (v + w) * (v + w) < 4 * n
    units_below =
        nearest_by (λ p. w < p * 2 ^ k → (p * 2 ^ k + w) * (p * 2 ^ k + w) < 4 * n) q (4 * n) (half² q k)
        (λ less h. let s : q * 2 ^ k + w < 2 * (q * 2 ^ k) = omega arith in omega (arith, mul-le-mul s s, c.below))
        (λ tie h. absurd (untied tie))
        (λ more h.
        let stays : w ≤ q * 2 ^ k = le_of_suc-le-suc (lt_of_not-le (λ (g : q * 2 ^ k < w). not-le_of_lt h (next g))) in
        let s : suc q * 2 ^ k + w ≤ (2 * q + 1) * 2 ^ k = omega arith in
        omega (arith, mul-le-mul s s))

  p_le : p ≤ suc q
  p_le = nearest-le q (compare (4 * n) (half² q k))

  p_pos : 0 < p
  p_pos = lt_of_lt_of_le (pow_pos (prec f - 1)) (le_trans c.full (nearest-ge q (compare (4 * n) (half² q k))))

  in_range : v < 2 ^ (low f + suc (emax f))
  in_range =
      let t = low f + suc (emax f) in
      let s : v ≤ 2 * q * 2 ^ k = mul-le-mul_right (2 ^ k) (omega (arith, p_le, pow_pos (prec f - 1), c.full)) in
      let four : 4 * l ≤ 2 ^ t = omega (arith, pow_mono {i = suc (suc (low f))} {j = t} (omega (arith, emax_two f))) in
      sq_lt_back (omega (arith, mul-le-mul s s, c.below, mul-lt-mul_of_pos_right X.reach (pow_pos (low f)), mul-le-mul_right (2 ^ t) four))

  nearest_at : (r : Float) → T (fits f r) → HasValue r false v l → NearestRoot f x r
  nearest_at nan F R = absurd R
  nearest_at (inf s) F R = absurd R
  nearest_at (fin true m e) F R = absurd (true≢false R.0)
  nearest_at (fin false m e) F R =
      let r = fin false m e in
      let L = pow_pos (low f) in
      record {
        held = F;
        number = positive_of_value r v l R (mul-pos p_pos (pow_pos k));
        larger = λ n d G h.
            let y = fin false n d in
            let Y = in_units f n d G in
            below_middle l (amount X) v (amount Y) x r y X.is R Y.is (units_above y Y (units_lt l v (amount Y) m n e d L R Y.is h));
        smaller = λ n d G h.
            let y = fin false n d in
            let Y = in_units f n d G in
            above_middle l (amount X) v (amount Y) x r y X.is R Y.is (units_below y Y (units_lt l (amount Y) v n m d e L Y.is R h));
      }

  nearest_units : NearestRoot f x (units f false p k)
  nearest_units = nearest_at (units f false p k) (units_fit f false p k (le_trans p_le c.few) in_range) (units_val f false p k in_range)

pub sqrt_nearest : (f : Format) (x : Float) → T (fits f x) → T (positive x) → NearestRoot f x (sqrt f x)
sqrt_nearest f nan h above = absurd above
sqrt_nearest f (inf s) h above = absurd above
sqrt_nearest f (fin true m e) h above = absurd above
sqrt_nearest f (fin false m e) h above =
    let x = fin false m e in
    let X = in_units f m e h in
    let some = value_pos x (amount X) (2 ^ low f) above (pow_pos (low f)) X.is in
    let c = cut_of f (amount X) some in
    rw (of_value f x (amount X) some X.is, root_of_cut f (amount X) _ _ c) (nearest_units f x X _ _ c)

-- ---- that says all: no two values of a format are nearest to one root

-- of r < s the one says that the root is below their middle, and the other that it is above
not_less : (f : Format) (x : Float) (m n : ℕ) (e d : ℤ) → NearestRoot f x (fin false m e) → NearestRoot f x (fin false n d) → m * up e * down d < n * up d * down e → ⊥
unfolding lt
not_less f x m n e d R S h =
    let l = lt→ltb (m * up e * down d) (n * up d * down e) h in
    omega (arith, R.larger n d S.held l, S.smaller m e R.held l)

pub nearest_unique : (f : Format) (x r s : Float) → NearestRoot f x r → NearestRoot f x s → r ≡ s
nearest_unique f x nan s R S = absurd R.number
nearest_unique f x (inf t) s R S = absurd R.number
nearest_unique f x (fin true m e) s R S = absurd R.number
nearest_unique f x (fin false m e) nan R S = absurd S.number
nearest_unique f x (fin false m e) (inf t) R S = absurd S.number
nearest_unique f x (fin false m e) (fin true n d) R S = absurd S.number
nearest_unique f x (fin false m e) (fin false n d) R S =
    let level : m * up e * down d ≡ n * up d * down e = omega (arith, not_less f x m n e d R S, not_less f x n m d e S R) in
    one_value f (fin false m e) (fin false n d) R.held S.held (same_bits f false m n e d level)
