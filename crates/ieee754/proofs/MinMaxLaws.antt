-- What the eight minimum and maximum operations have in common, in either format: each is a choice by an order and a rule for NaNs, and any such choice is lawful.
use mathlib.Core.Path.{◌≡◌, refl, sym, ◌∙◌}
use mathlib.Core.Bool.{Bool, true, false, cond, ◌||◌}
use mathlib.Core.Logic.{◌⊎◌, inl, inr}
use lib.Dec.{T}
use lib.Ieee.{Float, Format, fits, is_nan, lt, eq}
use Rattle.ieee754.specs.Operations as Operations
use Rattle.ieee754.specs.Operations.{abs, is_sign_minus, precedes, smaller_magnitude, choose, either_nan, the_number}
use Rattle.ieee754.specs.MinMaxLaws.{Laws, EachLawful, minus_zero, plus_zero}
use Rattle.ieee754.proofs.Fields.{only_nan}
use Rattle.ieee754.proofs.Orders.{Numbers, Placed, Same}
use Rattle.ieee754.proofs.Choice.{Way, ways, by_test}

-- x by the test m, and otherwise y
module _ (x y : Float) where
  one_of : (m : Bool) → let c = cond m x y in (c ≡ x) ⊎ (c ≡ y)
  one_of true = inl refl
  one_of false = inr refl

  one_value : (f : Format) → T (fits f x) → T (fits f y) → Same x y → (a : Bool) → is_nan x ≡ a → is_nan y ≡ a → x ≡ y
  one_value f F G same true A B = only_nan x A ∙ sym (only_nan y B)
  one_value f F G same false A B = same (A, B) f F G

  exchanged : (p q m n : Bool) → Placed Same x y p q → (Numbers x y → m ≡ false) → (Numbers x y → n ≡ false) → (Same x y → m ≡ n → x ≡ y)
      → cond (p || m) x y ≡ cond (q || n) y x
  exchanged true true m n l M N e = absurd l
  exchanged true false m n l M N e = rw (N l)
  exchanged false true m n l M N e = rw (M l)
  exchanged false false true true l M N e = e l refl
  exchanged false false true false l M N e = refl
  exchanged false false false true l M N e = refl
  exchanged false false false false l M N e = sym (e l refl)

module _ (f : Format) {op : Float → Float → Float} {before : Float → Float → Bool} {rest : Float → Float → Float} {nan_if : Bool → Bool → Bool}
    (way : Way op before rest nan_if) where
  lawful : {zero : Float} → op minus_zero plus_zero ≡ zero → Laws f zero op
  lawful z = record {
    operand = λ x y. rw (by_test way x y) (one_of x y (before x y || way.rule.takes x y));
    idempotent = λ x. by_test way x x ∙ itself x (before x x || way.rule.takes x x);
    commutative = λ x y F G.
        by_test way x y
        ∙ exchanged x y (before x y) (before y x) _ _ (way.order.at x y) (way.rule.numbers x y) (λ n. way.rule.numbers y x (n.1, n.0))
        (λ same e. one_value x y f F G same (is_nan y) (way.rule.alike x y e) refl)
        ∙ sym (by_test way y x);
    zeros = z;
  }
    where
      itself : (x : Float) (m : Bool) → cond m x x ≡ x
      itself x true = refl
      itself x false = refl

pub each_lawful : (f : Format) → EachLawful f
unfolding Operations.minimum Operations.minimum_number Operations.maximum Operations.maximum_number Operations.minimum_magnitude Operations.minimum_magnitude_number Operations.maximum_magnitude Operations.maximum_magnitude_number choose either_nan the_number precedes smaller_magnitude lt eq is_nan is_sign_minus abs
each_lawful f =
    record {
      minimum = lawful f ways.minimum refl;
      minimum_number = lawful f ways.minimum_number refl;
      maximum = lawful f ways.maximum refl;
      maximum_number = lawful f ways.maximum_number refl;
      minimum_magnitude = lawful f ways.minimum_magnitude refl;
      minimum_magnitude_number = lawful f ways.minimum_magnitude_number refl;
      maximum_magnitude = lawful f ways.maximum_magnitude refl;
      maximum_magnitude_number = lawful f ways.maximum_magnitude_number refl;
    }
