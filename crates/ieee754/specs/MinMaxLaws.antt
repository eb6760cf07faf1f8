-- What the eight minimum and maximum operations have in common, in either format: a theorem's statement, shown in `proofs/MinMaxLaws.antt`.
use Rattle.std.specs.Prelude.{◌≡◌, true, false, ◌⊎◌, pos, T, Float}
use Rattle.std.specs.Float.{fin, Format}
use Rattle.std.specs.Float.Ieee.{fits}
use Rattle.ieee754.specs.Operations as Operations

abbrev pub minus_zero : Float
minus_zero = fin true 0 (pos 0)

abbrev pub plus_zero : Float
plus_zero = fin false 0 (pos 0)

-- The result is an operand, that of an operand with itself is the operand, and the order of the operands does not matter (which NaN comes back may turn on it: the
-- logic has one). Of the two zeros it is `zero`.
pub record Laws (f : Format) (zero : Float) (op : Float → Float → Float) : Type 0 where
  pub operand : (x y : Float) → (op x y ≡ x) ⊎ (op x y ≡ y)
  pub idempotent : (x : Float) → op x x ≡ x
  pub commutative : (x y : Float) → T (fits f x) → T (fits f y) → op x y ≡ op y x
  pub zeros : op minus_zero plus_zero ≡ zero

abbrev pub Smallest : Format → (Float → Float → Float) → Type 0
Smallest f op = Laws f minus_zero op

abbrev pub Largest : Format → (Float → Float → Float) → Type 0
Largest f op = Laws f plus_zero op

pub record EachLawful (f : Format) : Type 0 where
  pub minimum : Smallest f Operations.minimum
  pub minimum_number : Smallest f Operations.minimum_number
  pub maximum : Largest f Operations.maximum
  pub maximum_number : Largest f Operations.maximum_number
  pub minimum_magnitude : Smallest f Operations.minimum_magnitude
  pub minimum_magnitude_number : Smallest f Operations.minimum_magnitude_number
  pub maximum_magnitude : Largest f Operations.maximum_magnitude
  pub maximum_magnitude_number : Largest f Operations.maximum_magnitude_number
