-- THE PORT'S OWN, which private contracts alone cite: what a voice must do to be played by a sheet, for the laws of its track to hold. Definitions only.
use Rattle.std.specs.Prelude.{◌≡◌, ◌≤◌, Bool, true, false, eqb, length, Float}
use mathlib.Core.List.{List}
use Rattle.std.proofs.Math.Option.{Option, none, some}
use Rattle.refusal.specs.Refusal.{is_sample_rate}
use Rattle.refusal.specs.Rows.{InTwo}
use Rattle.cue_sheet.specs.declared.line.Cue.{Cue}
use Rattle.cue_sheet.specs.Knobs.{KnobsOf}
use Rattle.track.specs.Track.{Calls, Player}
use Rattle.track.specs.Letters.{letter_of}

-- of calls with knobs that have passed their questions: `Ready` voices accept them and stay so, and a run in two is the whole run; what the buffer held is not read
pub record Plays {Voice : Type 0} (Ready : Voice → Type 0) (c : Calls Voice) : Type 0 where
  pub strikes : (v : Voice) → Ready v → (c.strike v).number ≡ 0
  pub struck : (v : Voice) → Ready v → Ready (c.strike v).state
  pub runs : (v : Voice) → Ready v → (out : List Float) → length out ≤ 16384 → (c.run v out).number ≡ 0
  pub stays : (v : Voice) → Ready v → (out : List Float) → Ready (c.run v out).state
  pub in_two : InTwo c.run
  pub fills : (v : Voice) (out out' : List Float) → length out ≡ length out' → (c.run v out).number ≡ 0 → c.run v out ≡ c.run v out'
  pub long : (v : Voice) (out : List Float) → (c.run v out).number ≡ 0 → length (c.run v out).out ≡ length out

abbrev pub PlaysAt : {Voice : Type 0} → (Voice → Type 0) → Option (Calls Voice) → Type 0
PlaysAt Ready none = Unit {0}
PlaysAt Ready (some calls) = Plays Ready calls

-- whether a cue is the voice's own
unfoldable pub is_own : {A : Type 0} → Option A → Bool
is_own none = false
is_own (some calls) = true

pub record Lawful {Voice : Type 0} (p : Player Voice) : Type 1 where
  pub Ready : Voice → Type 0
  pub init-accepted : (rate : Float) → is_sample_rate rate ≡ true → (p.init rate).number ≡ 0
  pub init_ready : (rate : Float) → is_sample_rate rate ≡ true → Ready (p.init rate).state
  pub plays : (cue : Cue) → KnobsOf cue → PlaysAt Ready (p.calls cue)
  pub own : (cue : Cue) → is_own (p.calls cue) ≡ eqb (letter_of cue) p.letter

-- the same of a player whose `Ready` is a test: a fact that a clause can ask for
pub record Tested {Voice : Type 0} (p : Player Voice) : Type 0 where
  pub ready : Voice → Bool
  pub init-accepted : (rate : Float) → is_sample_rate rate ≡ true → (p.init rate).number ≡ 0
  pub init_ready : (rate : Float) → is_sample_rate rate ≡ true → ready (p.init rate).state ≡ true
  pub plays : (cue : Cue) → KnobsOf cue → PlaysAt (λ v. ready v ≡ true) (p.calls cue)
  pub own : (cue : Cue) → is_own (p.calls cue) ≡ eqb (letter_of cue) p.letter
