-- What the turns of a loop compute. Definitions only.
use Rattle.std.specs.Prelude.{◌≡◌, Float}
use Rattle.block.specs.declared.Turn.{Turn}

-- whatever a turn gives of a state and a sample is what `stage` makes of them
abbrev pub Computes : {S : Type 0} → (S → Float → Turn S → Type 0) → (S → Float → Turn S) → Type 0
Computes {S} gives stage = (s : S) (x : Float) (t : Turn S) → gives s x t → t ≡ stage s x
