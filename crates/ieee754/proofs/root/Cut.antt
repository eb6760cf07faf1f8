-- The root of a units cut to the digits that a format keeps, which is what `Root.root_of` rounds; and `Root.sqrt` by what a program finds out about its operand. In
-- either format.
use borrow.Author.Tests.{le-leb, lt-leb, ne_eqb}
use mathlib.Core.Path.{◌≡◌, refl, sym, ◌∙◌, ap}
use mathlib.Core.Bool.{false, cond, Bool, true, or-true, true≢false, false≢true}
use Prim.Native.Nat.{ℕ, zero, suc, ◌+◌, ◌-◌, ◌*◌, ◌/◌, ◌^◌, ◌≤◌, ◌<◌, zero-le, compare}
use native.Mathlib.Nat.{le_trans, le_of_eq, le_of_suc-le-suc, lt_of_lt_of_le, lt_of_le_of_lt, lt-suc_self, le-div_iff_mul-le, zero-mul, zero-lt-suc}
use native.Mathlib.Nat.{mul-le-mul, mul-le-mul_right, mul-pos, div-mul-le_self, div-lt_iff_lt-mul, div-eq_of_lt-le, pow-le-pow_left, mul-div_cancel}
use native.Mathlib.Numerals.{add-one}
use native.Mathlib.Omega.{arith}
use native.Mathlib.Decide.{dec_le}
use lib.Dec.{leb, lit≤}
use lib.Pow.{pow-add, pow_pos, pow_mono}
use lib.Ieee.{Format, prec, low, size, nearest, units, hid, Float, nan, inf, fin, up, down, eq}
use lib.Ieee.Digits.{size-lt, size_reaches}
use lib.Ieee.Fits.{two, kept-lt, up_pos, down_pos}
use lib.Ieee.Exact.{HasValue}
use lib.IntN.{ℤ, pos}
use Rattle.ieee754.specs.Root.{digit, root_in, floor_root, root_of, sqrt}
use Rattle.ieee754.specs.Operations.{is_sign_minus}
use Rattle.ieee754.proofs.Fields.{twice_hid, deep}
use Rattle.ieee754.proofs.Numbers.{sq_lt_back, size_gt, size_exact, nearest_by}

-- ---- s is the square root of n without its fraction

abbrev IsRoot : ℕ → ℕ → Type 0
IsRoot n s = (s * s ≤ n) × (n < suc s * suc s)

digit_is : (n s : ℕ) → IsRoot (n / 4) s → IsRoot n (digit n s)
digit_is n s h = go ((2 * s + 1) * (2 * s + 1)) refl
  where
    go : (o : ℕ) → (2 * s + 1) * (2 * s + 1) ≡ o → IsRoot n (cond (leb o n) (2 * s + 1) (2 * s))
    go o e = elim (dec_le o n) [ yes l ↦ rw (le-leb o n l) (omega arith) | no l ↦ rw (lt-leb o n (omega arith)) (omega arith) ]

root_in_is : (d n : ℕ) → n < 4 ^ d → IsRoot n (root_in d n)
unfolding root_in
root_in_is zero n h = (zero-le, h)
root_in_is (suc d) n h = digit_is n (root_in d (n / 4)) (root_in_is d (n / 4) (omega arith))

floor_root_is : (n : ℕ) → IsRoot n (floor_root n)
unfolding floor_root
floor_root_is n = root_in_is (size n) n (lt_of_lt_of_le (size-lt n) (pow-le-pow_left (lit≤ {m = 2} {n = 4} tt) (size n)))

-- ---- q * 2 ^ k units are the root of a units, cut to the digits of the format f

pub record Cut (f : Format) (a q k : ℕ) : Type 0 where
  pub full : hid f ≤ q
  pub few : q < 2 ^ prec f
  pub below : q * 2 ^ k * (q * 2 ^ k) ≤ a * 2 ^ low f
  pub above : a * 2 ^ low f < suc q * 2 ^ k * (suc q * 2 ^ k)

-- twice the point half way to the next value, squared
abbrev pub half² : ℕ → ℕ → ℕ
half² q k = (2 * q + 1) * 2 ^ k * ((2 * q + 1) * 2 ^ k)

-- the digits of the rounded root
abbrev pub rounded : Format → ℕ → ℕ → ℕ → ℕ
rounded f a q k = nearest q (compare (4 * (a * 2 ^ low f)) (half² q k))

-- the definition rounds such a cut
module _ (f : Format) (a q k : ℕ) (c : Cut f a q k) where
  abbrev r : ℕ
  r = floor_root (a * 2 ^ low f)

  r_ge : q * 2 ^ k ≤ r
  r_ge = le_of_suc-le-suc (sq_lt_back (lt_of_le_of_lt c.below (floor_root_is (a * 2 ^ low f)).1))

  r_lt : r < suc q * 2 ^ k
  r_lt = sq_lt_back (lt_of_le_of_lt (floor_root_is (a * 2 ^ low f)).0 c.above)

  whole : r / 2 ^ k ≡ q
  whole = div-eq_of_lt-le (2 ^ k) r_ge (rw add-one r_lt)

  drops : size r - prec f ≡ k
  drops =
      let P = prec f - 1 in
      let lo : 2 ^ (P + k) ≤ r = omega (arith, pow-add 2 P k, mul-le-mul_right (2 ^ k) c.full, r_ge) in
      let hi : r < 2 ^ suc (P + k) = omega (arith, pow-add 2 P k, mul-le-mul_right (2 ^ k) (rw (twice_hid f) at c.few), r_lt) in
      omega (arith, size_exact (P + k) r lo hi, two f)

  pub root_of_cut : root_of f a ≡ units f false (rounded f a q k) k
  unfolding root_of
  root_of_cut = rw (drops, whole)

-- each a above 0 has one
pub cut_of : (f : Format) (a : ℕ) → 0 < a → let r = floor_root (a * 2 ^ low f) in let k = size r - prec f in Cut f a (r / 2 ^ k) k
cut_of f a some =
    let n = a * 2 ^ low f in
    let r = floor_root n in
    let k = size r - prec f in
    let q = r / 2 ^ k in
    let P = prec f - 1 in
    let low-le : 2 ^ low f ≤ n = omega (arith, mul-le-mul_right (2 ^ low f) some) in
    let r_ge : 2 ^ P ≤ r = le_of_suc-le-suc (sq_lt_back (omega (arith, (floor_root_is n).1, low-le, pow_mono (deep f), pow-add 2 P P))) in
    let long = size_gt P r r_ge in
    let whole : q * 2 ^ k ≤ r = div-mul-le_self r (2 ^ k) in
    let next : r < suc q * 2 ^ k = (div-lt_iff_lt-mul (pow_pos k)).0 (lt-suc_self q) in
    record {
      full = (le-div_iff_mul-le (pow_pos k)).1 (le_trans (le_of_eq (sym (pow-add 2 P k))) (size_reaches r (P + k) (omega (arith, two f))));
      few = kept-lt (prec f) r;
      below = le_trans (mul-le-mul whole whole) (floor_root_is n).0;
      above = lt_of_lt_of_le (floor_root_is n).1 (mul-le-mul next next);
    }

-- ---- what a program finds: q and the rest are the root and the remainder of n, and a units are n squares of 2 ^ k units
module _ (f : Format) (a k q rest : ℕ) (is : a * 2 ^ low f ≡ (q * q + rest) * (2 ^ k * 2 ^ k)) (small : rest ≤ 2 * q) (lo : hid f ≤ q) (hi : q < 2 ^ prec f) where
  abbrev u : ℕ
  u = 2 ^ k * 2 ^ k

  u_pos : 0 < u
  u_pos = mul-pos (pow_pos k) (pow_pos k)

  cut : Cut f a q k
  cut = record { full = lo; few = hi; below = omega arith; above = omega (arith, u_pos, mul-le-mul_right u small) }

  pub rounds_down : rest ≤ q → root_of f a ≡ units f false q k
  rounds_down h =
      root_of_cut f a q k cut
      ∙ nearest_by (λ d. units f false d k ≡ units f false q k) q (4 * (a * 2 ^ low f)) (half² q k)
      (λ _. refl)
      (λ l. absurd (omega (arith, u_pos, mul-le-mul_right u h)))
      (λ l. absurd (omega (arith, u_pos, mul-le-mul_right u h)))

  pub rounds_up : q < rest → root_of f a ≡ units f false (suc q) k
  rounds_up h =
      root_of_cut f a q k cut
      ∙ nearest_by (λ d. units f false d k ≡ units f false (suc q) k) q (4 * (a * 2 ^ low f)) (half² q k)
      (λ l. absurd (omega (arith, mul-le-mul_right u h, u_pos)))
      (λ l. absurd (omega (arith, mul-le-mul_right u h, u_pos)))
      (λ _. refl)

-- ---- the operands of `Root.sqrt`

-- `x == 0.0` holds of both zeros, and of nothing else
zero_equals : (s : Bool) (e : ℤ) → eq (fin s zero e) (fin false 0 (pos 0)) ≡ true
unfolding eq
zero_equals s e = simp (zero-mul, or-true)

more_differs : (s : Bool) (m : ℕ) (e : ℤ) → eq (fin s (suc m) e) (fin false 0 (pos 0)) ≡ false
unfolding eq
more_differs s m e = rw (ne_eqb (suc m * up e * 1) (0 * 1 * down e) (omega (arith, mul-pos (zero-lt-suc m) (up_pos e))))

-- x equals 0, whatever its sign
pub of_zero : (f : Format) (x : Float) → eq x (fin false 0 (pos 0)) ≡ true → x ≡ sqrt f x
unfolding sqrt eq
of_zero f nan h = absurd (false≢true h)
of_zero f (inf s) h = absurd (false≢true h)
of_zero f (fin s zero e) h = refl
of_zero f (fin s (suc m) e) h = absurd (true≢false (sym h ∙ more_differs s m e))

-- x is below 0
pub of_minus : (f : Format) (x : Float) → is_sign_minus x ≡ true → eq x (fin false 0 (pos 0)) ≡ false → sqrt f x ≡ nan
unfolding sqrt is_sign_minus eq
of_minus f nan s h = refl
of_minus f (inf true) s h = refl
of_minus f (inf false) s h = absurd (false≢true s)
of_minus f (fin t zero e) s h = absurd (true≢false (sym (zero_equals t e) ∙ h))
of_minus f (fin true (suc m) e) s h = refl
of_minus f (fin false (suc m) e) s h = absurd (false≢true s)

-- x is a units, above 0
pub of_value : (f : Format) (x : Float) (a : ℕ) → 0 < a → HasValue x false a (2 ^ low f) → sqrt f x ≡ root_of f a
unfolding sqrt
of_value f nan a A v = absurd v
of_value f (inf t) a A v = absurd v
of_value f (fin t zero e) a A v = absurd (omega (arith, v.1, mul-pos A (down_pos e)))
of_value f (fin true (suc m) e) a A v = absurd (true≢false v.0)
of_value f (fin false (suc m) e) a A v = ap (root_of f) (ap (λ (k : ℕ). k / down e) v.1 ∙ mul-div_cancel a (down_pos e))
