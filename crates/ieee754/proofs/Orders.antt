-- The orders of IEEE 754-2019, 9.6, by value and by magnitude, in either format.
use borrow.Author.Tests.{lt-ltb, le-ltb}
use mathlib.Core.Path.{◌≡◌, refl, sym, ◌∙◌}
use mathlib.Core.Bool.{Bool, true, false, not, ◌&&◌, ◌||◌, and-false, or-false, true≢false}
use Prim.Native.Nat.{ℕ, ◌+◌}
use native.Mathlib.Decide.{dec_lt}
use native.Mathlib.Omega.{arith}
use lib.Dec.{T, ltb}
use lib.Ieee.{Float, nan, inf, fin, Format, fits, is_nan, lt, eq, below, level}
use Rattle.ieee754.specs.Operations.{is_sign_minus, abs, precedes, smaller_magnitude}
use Rattle.ieee754.proofs.Fields.{one_value, abs-number}
use Rattle.ieee754.proofs.SmallestUnits.{same_bits}

-- ---- orders

abbrev pub Numbers : Float → Float → Type 0
Numbers x y = (is_nan x ≡ false) × (is_nan y ≡ false)

-- Where x and y lie, if p says that x comes first and q that y does: not both, and numbers alone. If neither does, `Level` holds of them.
abbrev pub Placed : (Float → Float → Type 0) → Float → Float → Bool → Bool → Type 0
Placed Level x y true true = ⊥
Placed Level x y true false = Numbers x y
Placed Level x y false true = Numbers x y
Placed Level x y false false = Level x y

pub record Order (Level : Float → Float → Type 0) (before : Float → Float → Bool) : Type 0 where
  pub at : (x y : Float) → Placed Level x y (before x y) (before y x)

pub converse : {Level : Float → Float → Type 0} {before : Float → Float → Bool} → Order Level before → Order Level (λ x y. before y x)
converse {Level} {before} o = record { at = λ x y. go x y (before x y) (before y x) (o.at x y) }
  where
    go : (x y : Float) (p q : Bool) → Placed Level x y p q → Placed Level x y q p
    go x y true true l = l
    go x y true false l = l
    go x y false true l = l
    go x y false false l = l

-- by a, and where neither comes first by b
abbrev pub then_by : (Float → Float → Bool) → (Float → Float → Bool) → Float → Float → Bool
then_by a b x y = a x y || (not (a y x) && b x y)

pub then_by_lem : {Any Level : Float → Float → Type 0} {a b : Float → Float → Bool} → Order Any a → Order Level b → Order Level (then_by a b)
then_by_lem {Any} {Level} {a} {b} A B = record { at = λ x y. go x y (a x y) (a y x) (b x y) (b y x) (A.at x y) (B.at x y) }
  where
    go : (x y : Float) (p q r s : Bool) → Placed Any x y p q → Placed Level x y r s → Placed Level x y (p || (not q && r)) (q || (not p && s))
    go x y true true r s k l = absurd k
    go x y true false r s k l = k
    go x y false true r s k l = k
    go x y false false r s k l = l

-- ---- by value: a sign and a magnitude, where -a comes before b, and before -b if a is larger

abbrev first : Bool → ℕ → Bool → ℕ → Bool
first s a t b = below s a t b || (level s a t b && (s && not t))

minus_plus : (a b : ℕ) → first true a false b ≡ true
minus_plus a b = elim (dec_lt 0 (a + b)) [
  | yes h ↦ rw (lt-ltb 0 (a + b) h)
  | no h ↦ let z : a ≡ 0 = omega arith in let e : b ≡ 0 = omega arith in rw (z, e)
]

-- two numbers, neither of which comes first, are one value
abbrev pub Same : Float → Float → Type 0
Same x y = Numbers x y → (f : Format) → T (fits f x) → T (fits f y) → x ≡ y

module _ {x y : Float} (n : Numbers x y) where
  by_size : (a b : ℕ) → (a ≡ b → Same x y) → Placed Same x y (ltb a b) (ltb b a)
  by_size a b same = elim (dec_lt a b) [
    | yes h ↦ rw (lt-ltb a b h, le-ltb b a (omega arith)) n
    | no h ↦ elim (dec_lt b a) [
      | yes g ↦ rw (lt-ltb b a g, le-ltb a b (omega arith)) n
      | no g ↦ rw (le-ltb a b (omega arith), le-ltb b a (omega arith)) (same (omega arith))
    ]
  ]

  by_sign : (s t : Bool) (a b : ℕ) → (s ≡ t → a ≡ b → Same x y) → Placed Same x y (first s a t b) (first t b s a)
  by_sign false false a b same = simp (and-false, or-false) (by_size a b (same refl))
  by_sign false true a b same = simp (and-false, minus_plus b a) n
  by_sign true false a b same = simp (and-false, minus_plus a b) n
  by_sign true true a b same = simp (and-false, or-false) (by_size b a (λ e. same refl (sym e)))

pub by_value : Order Same precedes
unfolding precedes lt eq is_nan is_sign_minus
by_value = record { at = go }
  where
    go : (x y : Float) → Placed Same x y (precedes x y) (precedes y x)
    go nan nan = λ n f F G. refl
    go nan (inf t) = λ n. absurd (true≢false n.0)
    go nan (fin t m d) = λ n. absurd (true≢false n.0)
    go (inf s) nan = λ n. absurd (true≢false n.1)
    go (fin s m e) nan = λ n. absurd (true≢false n.1)
    go (inf true) (inf true) = λ n f F G. refl
    go (inf true) (inf false) = (refl, refl)
    go (inf false) (inf true) = (refl, refl)
    go (inf false) (inf false) = λ n f F G. refl
    go (inf true) (fin t n d) = (refl, refl)
    go (inf false) (fin t n d) = (refl, refl)
    go (fin s m e) (inf true) = (refl, refl)
    go (fin s m e) (inf false) = (refl, refl)
    go (fin s m e) (fin t n d) = by_sign {x = fin s m e} {y = fin t n d} (refl, refl) s t _ _ (λ p l _ f F G. one_value f _ _ F G (rw p (same_bits f t m n e d l)))

-- ---- by magnitude

pub by_magnitude : Order (λ x y. T true) smaller_magnitude
unfolding precedes smaller_magnitude
by_magnitude = record { at = λ x y. go x y (lt (abs x) (abs y)) (lt (abs y) (abs x)) _ _ (by_value.at (abs x) (abs y)) }
  where
    numbers : (x y : Float) → Numbers (abs x) (abs y) → Numbers x y
    numbers x y n = (sym (abs-number x) ∙ n.0, sym (abs-number y) ∙ n.1)

    go : (x y : Float) (p q e d : Bool) → Placed Same (abs x) (abs y) (p || e) (q || d) → Placed (λ x y. T true) x y p q
    go x y true true e d l = l
    go x y true false e true l = absurd l
    go x y true false e false l = numbers x y l
    go x y false true true d l = absurd l
    go x y false true false d l = numbers x y l
    go x y false false e d l = tt
