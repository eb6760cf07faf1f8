-- Two choices that one comparison makes, for every x: x is below 1 - x where it is below 0.5, and the larger of 1 - x and 1 + x is 1 + |x|.
use borrow.Author.Tests.{ltb-true, ltb-false, lt-ltb, le-ltb, ne_eqb}
use mathlib.Core.Path.{◌≡◌, refl, sym, ◌∙◌}
use mathlib.Core.Bool.{Bool, true, false, cond, ◌&&◌, ◌||◌, true≢false}
use Prim.Native.Nat.{ℕ, ◌+◌, ◌-◌, ◌*◌, ◌≤◌, ◌<◌}
use native.Mathlib.Nat.{le_refl, mul-pos, mul-le-mul_right, mul-lt-mul_of_pos_right}
use native.Mathlib.Decide.{dec_le}
use native.Mathlib.Omega.{arith}
use lib.IntN.{ℤ, negsuc}
use lib.Dec.{T, ltb, eqb, ltb→lt, lit<}
use lib.Ieee.{Float, nan, inf, fin, Format, binary32, up, down, round, add, sub, neg, lt, le}
use lib.Ieee.Bits.{is_true}
use lib.Ieee.Fits.{up_pos, down_pos, round-fits}
use lib.Ieee.Order.{round_mono}
use lib.Ieee.Positive.{above, above_of_le, through}
use Rattle.ieee754.specs.Operations.{is_sign_minus, abs}
use Rattle.ieee754.specs.Single.{◌⊕◌, ◌⊖◌, decimal}
use Rattle.ieee754.proofs.Equal.{equal_value}
use Rattle.ieee754.proofs.Signs.{round_sign}

-- ---- what has a minus sign is below what is above 0
minus_lt : (x y : Float) → is_sign_minus x ≡ true → T (above y) → lt x y ≡ true
unfolding lt is_sign_minus
minus_lt nan y s p = absurd (true≢false (sym s))
minus_lt (inf false) y s p = absurd (true≢false (sym s))
minus_lt (inf true) nan s p = absurd p
minus_lt (inf true) (inf true) s p = absurd p
minus_lt (inf true) (inf false) s p = refl
minus_lt (inf true) (fin t n d) s p = refl
minus_lt (fin false m e) y s p = absurd (true≢false (sym s))
minus_lt (fin true m e) nan s p = absurd p
minus_lt (fin true m e) (inf true) s p = absurd p
minus_lt (fin true m e) (inf false) s p = refl
minus_lt (fin true m e) (fin true n d) s p = absurd p
minus_lt (fin true m e) (fin false n d) s p =
    let h : 0 < n * up d * down e = mul-pos (mul-pos (ltb→lt 0 n p) (up_pos d)) (down_pos e) in
    lt-ltb 0 (m * up e * down d + n * up d * down e) (omega arith)

minus_le : (x y : Float) → is_sign_minus x ≡ true → T (above y) → T (le x y)
unfolding le
minus_le x y s p = rw (minus_lt x y s p) tt

-- ---- what lies at or above an upper bound of z is not below z
-- `le` of two values without a minus sign
at_most : (a b : ℕ) → T (ltb a b || (eqb a b && true)) → a ≤ b
at_most a b t = elim (dec_le a b) [ yes h ↦ h | no g ↦ absurd (rw (le-ltb a b (omega arith), ne_eqb a b (omega arith)) at t) ]

fin_not_lt : (m n : ℕ) (e d : ℤ) (z : Float) → n * up d * down e ≤ m * up e * down d → T (le z (fin false n d)) → lt (fin false m e) z ≡ false
unfolding lt le
fin_not_lt m n e d nan h l = refl
fin_not_lt m n e d (inf true) h l = refl
fin_not_lt m n e d (inf false) h l = absurd l
fin_not_lt m n e d (fin true k g) h l = refl
fin_not_lt m n e d (fin false k g) h l =
    le-ltb (m * up e * down g) (k * up g * down e)
    (through (k * up g) (n * up d) (m * up e) (down g) (down d) (down e) (down_pos d) (at_most (k * up g * down d) (n * up d * down g) l) h)

not_lt : (x y : Float) → is_sign_minus x ≡ false → T (le y x) → lt x y ≡ false
unfolding lt is_sign_minus
not_lt nan y s h = refl
not_lt (inf true) y s h = absurd (true≢false s)
not_lt (inf false) nan s h = refl
not_lt (inf false) (inf t) s h = refl
not_lt (inf false) (fin t n d) s h = refl
not_lt (fin true m e) y s h = absurd (true≢false s)
not_lt (fin false m e) y s h = fin_not_lt m m e e y (le_refl _) h

-- ---- a / c less b / c, and a / c and b / c together
module _ (f : Format) (a b c : ℕ) (C : 0 < c) (p : T (above (round f false (a + b) c))) where
  abbrev more : Float
  more = round f false (a + b) c

  -- by whether a is below b
  abbrev less : Bool → Float
  less t = cond t (round f true (b - a) c) (round f false (a - b) c)

  no_larger : (t : Bool) → T (le (less t) more)
  no_larger true = minus_le (less true) more (round_sign f true (b - a) c) p
  no_larger false = round_mono f (a - b) c (a + b) c C C (mul-le-mul_right c (omega arith))

  more_not_lt : (t : Bool) → lt more (less t) ≡ false
  more_not_lt t = not_lt more (less t) (round_sign f false (a + b) c) (no_larger t)

  larger : (t : Bool) → cond (lt (less t) more) more (less t) ≡ more
  unfolding le
  larger true = rw (minus_lt (less true) more (round_sign f true (b - a) c) p)
  larger false = chosen (lt (less false) more) (less false) (λ h.
      equal_value f (less false) more (round-fits f false (a - b) c) (round-fits f false (a + b) c) (is_true _ (rw h at (no_larger false)))
      (round_sign f false (a - b) c ∙ sym (round_sign f false (a + b) c)))
    where
      chosen : (t : Bool) (x : Float) → (t ≡ false → x ≡ more) → cond t more x ≡ more
      chosen true x h = refl
      chosen false x h = h refl

-- ---- the two laws

-- below 0.5
fin_lt : (m : ℕ) (e : ℤ) (z : Float) → m * up e * 2 < down e → T (le (decimal 5 1) z) → lt (fin false m e) z ≡ true
unfolding round lt le
fin_lt m e nan h l = absurd l
fin_lt m e (inf true) h l = absurd l
fin_lt m e (inf false) h l = refl
fin_lt m e (fin true k g) h l = absurd (above_of_le (decimal 5 1) (fin true k g) tt l)
fin_lt m e (fin false k g) h l =
    lt-ltb (m * up e * down g) (k * up g * down e)
    (omega (arith, mul-lt-mul_of_pos_right h (down_pos g), mul-le-mul_right (down e) (at_most (1 * down g) (k * up g * 2) l)))

-- x is num / den
module _ (m : ℕ) (e : ℤ) where
  abbrev num : ℕ
  num = m * up e * 1

  abbrev den : ℕ
  den = 1 * down e

  den_pos : 0 < den
  den_pos = omega (arith, down_pos e)

  -- 1 + |x| is at least 1
  one_more : T (above (round binary32 false (den + num) den))
  unfolding round
  one_more = above_of_le (decimal 1 0) (round binary32 false (den + num) den) tt (round_mono binary32 1 1 (den + num) den (lit< tt) den_pos (omega arith))

  folds_plus : (t u : Bool) → ltb den num ≡ t → ltb (m * up e * 2) den ≡ u
      → lt (fin false m e) (cond t (round binary32 true (num - den) den) (round binary32 false (den - num) den)) ≡ u
  unfolding round
  folds_plus true true p q = absurd (omega (arith, ltb-true den num p, ltb-true (m * up e * 2) den q))
  folds_plus true false p q =
      let h = ltb-false (m * up e * 2) den q in
      fin_not_lt m 1 e (negsuc 0) (round binary32 true (num - den) den) (omega arith)
      (minus_le (round binary32 true (num - den) den) (decimal 5 1) (round_sign binary32 true (num - den) den) tt)
  folds_plus false true p q =
      let h = ltb-true (m * up e * 2) den q in
      fin_lt m e (round binary32 false (den - num) den) (omega arith) (round_mono binary32 5 10 (den - num) den (lit< tt) den_pos (omega arith))
  folds_plus false false p q =
      let h = ltb-false (m * up e * 2) den q in
      fin_not_lt m 1 e (negsuc 0) (round binary32 false (den - num) den) (omega arith) (round_mono binary32 (den - num) den 5 10 den_pos (lit< tt) (omega arith))

pub folds : (x : Float) → lt x (decimal 1 0 ⊖ x) ≡ lt x (decimal 5 1)
unfolding round sub add neg lt is_sign_minus
folds nan = refl
folds (inf true) = refl
folds (inf false) = refl
folds (fin true m e) =
    minus_lt (fin true m e) (decimal 1 0 ⊖ fin true m e) refl (one_more m e) ∙ sym (minus_lt (fin true m e) (decimal 5 1) refl tt)
folds (fin false m e) = folds_plus m e (ltb (den m e) (num m e)) (ltb (m * up e * 2) (den m e)) refl refl

pub one_plus_abs : (x : Float) → cond (lt (decimal 1 0 ⊕ x) (decimal 1 0 ⊖ x)) (decimal 1 0 ⊖ x) (decimal 1 0 ⊕ x) ≡ decimal 1 0 ⊕ abs x
unfolding round add sub neg lt abs
one_plus_abs nan = refl
one_plus_abs (inf true) = refl
one_plus_abs (inf false) = refl
one_plus_abs (fin false m e) = rw (more_not_lt binary32 (den m e) (num m e) (den m e) (den_pos m e) (one_more m e) (ltb (den m e) (num m e)))
one_plus_abs (fin true m e) = larger binary32 (den m e) (num m e) (den m e) (den_pos m e) (one_more m e) (ltb (den m e) (num m e))
