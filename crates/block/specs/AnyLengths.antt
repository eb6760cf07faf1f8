-- Buffers one after the other, each filled from the state that the one before left, and that they are one block. Definitions only.
use Rattle.std.specs.Prelude.{◌≡◌, Float}
use mathlib.Core.List.{List, [], ◌∷◌, ◌++◌, flatten}
use Rattle.block.specs.declared.Turn.{Turn}
use Rattle.block.specs.Block.{Passed, filled}

-- what two passes leave: the state past the second, and the two buffers one after the other
abbrev pub joined : {S : Type 0} → Passed S → Passed S → Passed S
joined first second = record { state = second.state; out = first.out ++ second.out }

unfoldable pub in_turn : {S : Type 0} → (S → Turn S) → S → List (List Float) → Passed S
in_turn step s [] = record { state = s; out = [] }
in_turn step s (out ∷ outs) =
    let first = filled step (record { state = s; out = out }) in
    joined first (in_turn step first.state outs)

-- any list of lengths: a block that is cut in two, or into however many buffers, is those buffers filled in turn
pub record AnyLengths {S : Type 0} (step : S → Turn S) : Type 0 where
  pub two : (s : S) (a b : List Float)
      → let first = filled step (record { state = s; out = a }) in
      filled step (record { state = s; out = a ++ b }) ≡ joined first (filled step (record { state = first.state; out = b }))
  pub many : (s : S) (outs : List (List Float)) → filled step (record { state = s; out = flatten outs }) ≡ in_turn step s outs
