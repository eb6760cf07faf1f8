-- A call with a trigger as two calls: a strike, which does what the trigger did, and a run, which renders untriggered. Definitions only.
use Rattle.std.specs.Prelude.{ℕ, suc, ◌≡◌, Bool, true, false, List, Float}
use Rattle.refusal.specs.Refusal.{Call}
use Rattle.refusal.specs.Rows.{both}

-- of a voice v, all with the same knobs: the Rust's `render` by its trigger and its buffer, the strike of v, and the run of any voice over a buffer
pub record StrikeAndRun {State : Type 0} (v : State) (render : Bool → List Float → Call State) (strike : Call State) (run : State → List Float → Call State) : Type 0 where
  -- where the triggered render is accepted, so are the strike and the run after it, and they leave the same voice and the same samples
  pub triggered : (out : List Float) → (render true out).number ≡ 0 → both strike (run strike.state out) ≡ render true out
  -- they are accepted nowhere else
  pub accepted : (out : List Float) → (both strike (run strike.state out)).number ≡ 0 → (render true out).number ≡ 0
  -- where the untriggered render is accepted, the run alone is that render
  pub untriggered : (out : List Float) → (render false out).number ≡ 0 → run v out ≡ render false out
  -- where the run is refused, the strike before it stands, and the buffer is as it was
  pub stands : (out : List Float) (n : ℕ) → (run strike.state out).number ≡ suc n → run strike.state out ≡ record { number = suc n; state = strike.state; out = out }

-- of two strikes with no run between them the last counts, if it is accepted of the voice as it was, as if there had been no other; A is what a strike takes
abbrev pub LastCounts : {State A : Type 0} → (State → A → Call State) → Type 0
LastCounts strike = (v : _) (first last : _) → (strike v last).number ≡ 0 → strike (strike v first).state last ≡ strike v last
