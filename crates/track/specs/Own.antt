-- THE PORT'S OWN, which private contracts alone cite: a voice's own cues, and what it plays by them alone: struck at each, it runs up to the next. Definitions only.
use Rattle.std.specs.Prelude.{ℕ, ◌-◌, replicate, Float}
use mathlib.Core.List.{List, [], ◌∷◌, ◌++◌, map}
use Rattle.std.proofs.Math.Option.{Option, none, some}
use Rattle.cue_sheet.specs.declared.line.Strike.{Strike}
use Rattle.track.specs.Mix.{silence}
use Rattle.track.specs.Track.{Calls, Player}

-- where a cue of its own starts, and the voice's calls with the cue's knobs
pub record Own (Voice : Type 0) : Type 0 where
  pub start : ℕ
  pub calls : Calls Voice

module _ {Voice : Type 0} where
  -- before the cues that come after it, if the cue is the voice's own
  unfoldable pub on_own : ℕ → Option (Calls Voice) → List (Own Voice) → List (Own Voice)
  on_own start none os = os
  on_own start (some calls) os = record { start = start; calls = calls } ∷ os

  -- where the run before the first of them ends, which is the sheet's end where there is none
  unfoldable pub ends : ℕ → List (Own Voice) → ℕ
  ends length [] = length
  ends length (o ∷ os) = o.start

  -- what they play, from the first of them on
  unfoldable pub solo_from : ℕ → Voice → List (Own Voice) → List (Option Float)
  solo_from length v [] = []
  solo_from length v (o ∷ os) =
      let run = o.calls.run (o.calls.strike v).state (silence (ends length os - o.start)) in
      map some run.out ++ solo_from length run.state os

  -- the same from the sheet's start on: before the first cue nothing
  unfoldable pub solo : ℕ → Voice → List (Own Voice) → List (Option Float)
  solo length v os = replicate (ends length os) none ++ solo_from length v os

-- the voice's own among a sheet's cues
unfoldable pub owns : {Voice : Type 0} → Player Voice → List Strike → List (Own Voice)
owns p [] = []
owns p (s ∷ ss) = on_own s.start (p.calls s.cue) (owns p ss)
