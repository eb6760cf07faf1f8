-- One voice of a sheet: the segments into which all cues cut the sheet, the calls that are made of the voice in them, and its track. Definitions only.
use Rattle.std.specs.Prelude.{ℕ, ◌-◌, ◌≡◌, pos, replicate, Float}
use mathlib.Core.List.{List, [], ◌∷◌, map, flatten}
use Rattle.std.proofs.Math.Option.{Option, none, some, Option-elim}
use Rattle.std.specs.Float.{binary32}
use Rattle.std.specs.Float.Ieee.{of_int}
use Rattle.refusal.specs.Refusal.{Call}
use Rattle.cue_sheet.specs.declared.line.Strike.{Strike}
use Rattle.cue_sheet.specs.declared.Head.{Head}
use Rattle.cue_sheet.specs.declared.line.Cue.{Cue}
use Rattle.track.specs.Mix.{silence}

-- a voice's strike and its run with the knobs of a cue: what is left is the voice, and the buffer of the run
pub record Calls (Voice : Type 0) : Type 0 where
  pub strike : Voice → Call Voice
  pub run : Voice → List Float → Call Voice

-- one of the four voices, as a sheet plays it: its letter, the voice that `init` makes at a sample rate, and its calls with the knobs of a cue; none at the cues of
-- others
pub record Player (Voice : Type 0) : Type 0 where
  pub letter : ℕ
  pub init : Float → Call Voice
  pub calls : Cue → Option (Calls Voice)

-- ---- the segments (the scope calls them stretches): up to the start of each cue, of whatever voice, and then to the sheet's end

-- where a segment ends: at the first of the cues that are left
unfoldable pub until : ℕ → List Strike → ℕ
until length [] = length
until length (s ∷ ss) = s.start

-- of one voice: how many samples the segment has, the strike where it begins with a cue of the voice's own, and the run, none where the voice has not been struck
pub record Segment (Voice : Type 0) : Type 0 where
  pub size : ℕ
  pub strike : Option (Call Voice)
  pub run : Option (Call Voice)

-- the calls with the latest knobs, by those of the cue that the segment begins with, if it is the voice's own, and those before
unfoldable pub latest : {A : Type 0} → Option A → Option A → Option A
latest none before = before
latest (some own) before = some own

unfoldable pub struck : {Voice : Type 0} → Option (Calls Voice) → Voice → Option (Call Voice)
struck none v = none
struck (some own) v = some (own.strike v)

-- over a buffer of the segment's size; a voice that has not been struck stays as it is and draws no noise
unfoldable pub ran : {Voice : Type 0} → Option (Calls Voice) → Voice → ℕ → Option (Call Voice)
ran none v n = none
ran (some latest) v n = some (latest.run v (silence n))

unfoldable pub left : {Voice : Type 0} → Voice → Option (Call Voice) → Voice
left v none = v
left v (some call) = call.state

module _ {Voice : Type 0} (p : Player Voice) (length : ℕ) where
  -- from a cue on: the voice is struck where the cue is its own, and runs with its latest knobs
  unfoldable pub segments_from : Option (Calls Voice) → Voice → List Strike → List (Segment Voice)
  segments_from before v [] = []
  segments_from before v (s ∷ ss) =
      let own = p.calls s.cue in
      let n = until length ss - s.start in
      let strike = struck own v in
      let run = ran (latest own before) (left v strike) n in
      record { size = n; strike = strike; run = run } ∷ segments_from (latest own before) (left (left v strike) run) ss

  -- of a sheet: before its first cue no voice is struck. (Where that is at 0, this segment is empty.)
  abbrev pub segments : Voice → List Strike → List (Segment Voice)
  segments v ss = record { size = until length ss; strike = none; run = none } ∷ segments_from none v ss

-- no call is refused
abbrev pub NotRefused : {Voice : Type 0} → Option (Call Voice) → Type 0
NotRefused call = Option-elim call (Unit {0}) (λ call. call.number ≡ 0)

unfoldable pub Accepted : {Voice : Type 0} → List (Segment Voice) → Type 0
Accepted [] = Unit {0}
Accepted (g ∷ gs) = NotRefused g.strike × NotRefused g.run × Accepted gs

-- ---- the track: what the voice gives to each sample of the sheet, nothing where it is not struck
unfoldable pub given : {Voice : Type 0} → ℕ → Option (Call Voice) → List (Option Float)
given n none = replicate n none
given n (some run) = map some run.out

abbrev pub track_of : {Voice : Type 0} → List (Segment Voice) → List (Option Float)
track_of segments = flatten (map (λ g. given g.size g.run) segments)

-- the sample rate is the f32 nearest to the sheet's
abbrev pub started : {Voice : Type 0} → Player Voice → Head → Call Voice
started p head = p.init (of_int binary32 (pos head.rate))

unfoldable pub track : {Voice : Type 0} → Player Voice → Head → List Strike → List (Option Float)
track p head ss = track_of (segments p head.length (started p head).state ss)

-- init and all calls are accepted
pub record NoneRefused {Voice : Type 0} (p : Player Voice) (head : Head) (ss : List Strike) : Type 0 where
  pub init : (started p head).number ≡ 0
  pub calls : Accepted (segments p head.length (started p head).state ss)
