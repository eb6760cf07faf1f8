-- Finite values in units of the smallest value of a format, 2 ^ -low, in either format: which of them a format holds, and their patterns.
use borrow.Author.Tests.{lt-ltb}
use mathlib.Core.Path.{◌≡◌, refl, sym, ap, ◌∙◌}
use mathlib.Core.Bool.{Bool, false, cond}
use mathlib.Core.Logic.{inl, inr}
use Prim.Native.Nat.{ℕ, suc, ◌+◌, ◌-◌, ◌*◌, ◌/◌, ◌%◌, ◌^◌, ◌≤◌, ◌<◌}
use native.Mathlib.Nat.{lt_of_le_of_lt, lt_of_lt_of_le, le_refl, lt_of_not-le, eq-or-lt_of_le, pow-succ'}
use native.Mathlib.Omega.{arith}
use lib.IntN.{ℤ}
use lib.Dec.{T}
use lib.Pow.{pow-lt, pow_mono, shl_lt, pow_pos, shl-shr}
use lib.Ieee.{Float, nan, inf, fin, Format, prec, emax, low, up, down, size, units, fits, hid, ones, top, to_bits, is_nan, of_bits}
use lib.Ieee.Exact.{HasValue, units_val}
use lib.Ieee.Fits.{odd-fits, down_pos, two}
use lib.Ieee.Nearest.{div_same}
use lib.Ieee.Bits.{of_bits-to_bits}
use Rattle.ieee754.proofs.Fields.{emax_two, plus_lt, significand, significand_lt, value, infinite, t_lt, twice_hid}
use Rattle.ieee754.proofs.Numbers.{size_shifted}

-- digits * 2 ^ place units, with the digits of the format or one more after a carry, are a value of the format if they are below 2 ^ (emax + 1)
pub units_fit : (f : Format) (s : Bool) (q k : ℕ) → q ≤ 2 ^ prec f → q * 2 ^ k < 2 ^ (low f + suc (emax f)) → T (fits f (units f s q k))
unfolding units
units_fit f s q k few h = rw (lt-ltb _ _ h) (odd-fits f (suc (prec f)) s q k (lt_of_le_of_lt few (pow-lt (le_refl (suc (prec f))))) few h)

-- and each value of the format that is finite and has the sign clear is that
pub record InUnits (f : Format) (x : Float) : Type 0 where
  pub digits : ℕ
  pub place : ℕ
  pub few : digits < 2 ^ prec f
  pub is : HasValue x false (digits * 2 ^ place) (2 ^ low f)
  pub reach : digits * 2 ^ place < 2 ^ (low f + suc (emax f))

abbrev pub amount : {f : Format} {x : Float} → InUnits f x → ℕ
amount u = u.digits * 2 ^ u.place

not_infinite : (m : ℕ) (e : ℤ) → fin false m e ≡ inf false → ⊥
not_infinite m e p = let z : ◌≡◌ {A = ℕ} 0 1 = cc in omega arith

pub in_units : (f : Format) (m : ℕ) (e : ℤ) → T (fits f (fin false m e)) → InUnits f (fin false m e)
unfolding is_nan
in_units f m e h =
    let x = fin false m e in
    let plain = plus_lt f m e h in
    let E = to_bits f x / hid f in
    let t = to_bits f x % hid f in
    let finite : E < ones f = lt_of_not-le (λ (g : ones f ≤ E). not_infinite m e (infinite f x h plain tt g)) in
    let few = significand_lt f E t (t_lt f x h plain) in
    record {
      digits = significand f E t;
      place = E - 1;
      few = few;
      is = value f x h plain finite;
      reach = lt_of_lt_of_le (shl_lt (prec f) (E - 1) few) (pow_mono (omega (arith, emax_two f)));
    }

-- ---- the pattern, by any fraction a / c that the value equals

abbrev pub pattern : Format → Bool → ℕ → ℕ
pattern f s n = cond s (top f) 0 + (size n - prec f) * hid f + n / 2 ^ (size n - prec f)

pub to_bits_of_value : (f : Format) (x : Float) (s : Bool) (a c : ℕ) → 0 < c → HasValue x s a c → to_bits f x ≡ pattern f s (a * 2 ^ low f / c)
unfolding to_bits
to_bits_of_value f nan s a c C v = absurd v
to_bits_of_value f (inf t) s a c C v = absurd v
to_bits_of_value f (fin t m e) s a c C v =
    rw (v.0, div_same (m * up e * 2 ^ low f) (down e) (a * 2 ^ low f) c (down_pos e) C (omega (arith, ap (λ (k : ℕ). k * 2 ^ low f) v.1)))

-- two values that are equal as fractions, with the same sign, have the same pattern
pub same_bits : (f : Format) (s : Bool) (m n : ℕ) (e d : ℤ) → m * up e * down d ≡ n * up d * down e → to_bits f (fin s m e) ≡ to_bits f (fin s n d)
same_bits f s m n e d h =
    let at = to_bits_of_value f (fin s m e) s (n * up d) (down d) (down_pos d) (refl, h) in
    at ∙ sym (to_bits_of_value f (fin s n d) s (n * up d) (down d) (down_pos d) (refl, refl))

-- ---- a value put together from its digits and its place: q * 2 ^ k units, with all of the format's digits in use, have the pattern k * hid + q. The leading digit
-- adds one to the exponent's field, and so does a carry that makes q one digit longer.

pattern_full : (f : Format) (q k : ℕ) → hid f ≤ q → q < 2 ^ prec f → pattern f false (q * 2 ^ k) ≡ k * hid f + q
pattern_full f q k lo hi =
    let drops : size (q * 2 ^ k) - prec f ≡ k = omega (arith, size_shifted (prec f - 1) q k lo (omega (arith, twice_hid f)), two f) in
    rw drops (omega (arith, shl-shr q k))

-- a carry makes the digits a one with zeros, as many places higher
pattern_is : (f : Format) (q k : ℕ) → hid f ≤ q → q ≤ 2 ^ prec f → pattern f false (q * 2 ^ k) ≡ k * hid f + q
pattern_is f q k lo hi = elim (eq-or-lt_of_le hi) [
  | inl e ↦
      let twice : q ≡ 2 * hid f = e ∙ twice_hid f in
      let same : q * 2 ^ k ≡ hid f * 2 ^ suc k = rw (twice, pow-succ' 2 k) (omega arith) in
      ap (pattern f false) same ∙ pattern_full f (hid f) (suc k) (le_refl (hid f)) (omega (arith, twice_hid f, pow_pos (prec f - 1))) ∙ omega arith
  | inr l ↦ pattern_full f q k lo l
]

pub packed_is : (f : Format) (q k : ℕ) → hid f ≤ q → q ≤ 2 ^ prec f → q * 2 ^ k < 2 ^ (low f + suc (emax f)) → of_bits f (k * hid f + q) ≡ units f false q k
packed_is f q k lo hi h =
    let x = units f false q k in
    let is : to_bits f x ≡ k * hid f + q =
    to_bits_of_value f x false (q * 2 ^ k) (2 ^ low f) (pow_pos (low f)) (units_val f false q k h) ∙ rw (shl-shr (q * 2 ^ k) (low f)) (pattern_is f q k lo hi) in
    ap (of_bits f) (sym is) ∙ of_bits-to_bits f x (units_fit f false q k hi h)
