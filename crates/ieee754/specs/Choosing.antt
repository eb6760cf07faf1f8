-- THE PORT'S OWN, which private contracts alone cite: what the two functions that `choose` is given compute, by the values of their operands. Definitions only.
use Rattle.std.specs.Prelude.{◌≡◌, Bool, Float}

-- whatever a test answers is what `order` is of the values
abbrev pub Tests : {A : Type 0} → (A → Float) → (A → A → Bool → Type 0) → (Float → Float → Bool) → Type 0
Tests {A} value gives order = (x y : A) (r : Bool) → gives x y r → r ≡ order (value x) (value y)

-- whatever an operation gives has the value that `op` makes of the values
abbrev pub Computes : {A : Type 0} → (A → Float) → (A → A → A → Type 0) → (Float → Float → Float) → Type 0
Computes {A} value gives op = (x y r : A) → gives x y r → value r ≡ op (value x) (value y)
