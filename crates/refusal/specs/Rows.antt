-- Calls one after the other, each from the state that the one before left, and what it is for one call to be such a row. Definitions only.
use Rattle.std.specs.Prelude.{◌≡◌, Float}
use mathlib.Core.List.{List, [], ◌∷◌, ◌++◌, flatten}
use Rattle.refusal.specs.Refusal.{Call, unless_refused}

-- two calls as one: the number of the first refusal, so 0 where both are accepted; the state that the second leaves; both buffers one after the other
abbrev pub both : {State : Type 0} → Call State → Call State → Call State
both first second =
    record {
      number = unless_refused first.number second.number first.number;
      state = second.state;
      out = first.out ++ second.out;
    }

-- a row of calls as one: the first, and then `next` over each further buffer, from the state that the call before left
unfoldable pub row : {State : Type 0} → (State → List Float → Call State) → Call State → List (List Float) → Call State
row next first [] = first
row next first (out ∷ outs) = both first (row next (next first.state out) outs)

-- what may hold of a run, by the state that it begins from and its buffer
abbrev pub Law : Type 0 → Type 1
Law State = (State → List Float → Call State) → Type 0

-- where a buffer is accepted, a run over it is a run over a part of it and then a run over the rest
abbrev pub InTwo : {State : Type 0} → Law State
InTwo run = (s : _) (a b : List Float) → (run s (a ++ b)).number ≡ 0 → run s (a ++ b) ≡ both (run s a) (run (run s a).state b)

-- any number of parts: where a buffer is accepted, a run over it is a row of runs over its parts; and two rows over one buffer, of any length, whose runs are all
-- accepted give the same
pub record InRows {State : Type 0} (run : State → List Float → Call State) : Type 0 where
  pub whole : (s : State) (a : List Float) (outs : List (List Float)) → (run s (a ++ flatten outs)).number ≡ 0 → run s (a ++ flatten outs) ≡ row run (run s a) outs
  pub cuts : (s : State) (a a' : List Float) (outs outs' : List (List Float)) → a ++ flatten outs ≡ a' ++ flatten outs'
      → (row run (run s a) outs).number ≡ 0 → (row run (run s a') outs').number ≡ 0 → row run (run s a) outs ≡ row run (run s a') outs'
