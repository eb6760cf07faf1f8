-- What a line that stands for a cue shows: that every question is passed.
use Rattle.std.proofs.Common.{◌≡◌, ℕ, ◌<◌, ◌≤◌, Bool, true, false, ltb, leb, List, Option, Some, None, refl, arith, ltb-true, leb-true}
use lib.Ieee.{Float}
use Rattle.refusal.specs.Refusal.{is_frequency, is_unit}
use Rattle.refusal.proofs.ByNumber as ByNumber
use Rattle.cue_sheet.specs.Answer.{number, Told, says, ◌>>=◌, ◌>>◌, ask, ask_for}
use Rattle.cue_sheet.specs.Fields.{read_fields}
use Rattle.cue_sheet.specs.CueLine.{is_decay, cue, cue_of, read_cue}
use Rattle.cue_sheet.specs.Knobs.{KnobsIn, KnobsOf}
use Rattle.cue_sheet.specs.declared.line.Strike.{Strike}
use Rattle.cue_sheet.specs.declared.line.Walk.{Walk}
use Rattle.cue_sheet.specs.declared.answer.SheetRefusal.{SheetRefusal}
use Rattle.cue_sheet.specs.declared.answer.SheetRefusal.TheVariants.{Knobs, FirstLine, CueLine, CueStart, CueCount, BufferLength}
use Rattle.cue_sheet.specs.declared.voice.Voice.{Voice}
use Rattle.cue_sheet.specs.declared.line.Fields.{Fields}

-- a refusal's number is not 0; the highest is 11
pub numbered : (r : SheetRefusal) → (0 < number r) × (number r ≤ 11)
numbered (Knobs r) = let b = ByNumber.refused r in (b.0, omega (arith, b.1))
numbered FirstLine = omega arith
numbered CueLine = omega arith
numbered CueStart = omega arith
numbered CueCount = omega arith
numbered BufferLength = omega arith

passed : {A : Type 0} (q : Bool) (n : ℕ) (next : Told A) {x : A} → (ask q n >> next) ≡ says x → (q ≡ true) × (next ≡ says x)
passed true n next h = (refl, h)
passed false n next h = let never : ◌≡◌ {A = ℕ} 0 1 = cc in absurd (omega arith)

pub asked_for : {A : Type 0} (o : Option A) (n : ℕ) {x : A} → ask_for o n ≡ says x → o ≡ Some x
asked_for (Some y) n h = cc
asked_for None n h = let never : ◌≡◌ {A = ℕ} 0 1 = cc in absurd (omega arith)

read : {A B : Type 0} (o : Option A) (n : ℕ) (next : A → Told B) {x : B} → (ask_for o n >>= next) ≡ says x → (y : A) × (o ≡ Some y) × (next y ≡ says x)
read (Some y) n next h = (y, refl, h)
read None n next h = let never : ◌≡◌ {A = ℕ} 0 1 = cc in absurd (omega arith)

knobs_of : (voice : Voice) (accent f0 a decay c : Float) → KnobsIn (is_decay voice) accent f0 a decay c → KnobsOf (cue voice accent f0 a decay c)
unfolding is_decay
knobs_of Voice.Bass accent f0 a decay c k = k
knobs_of Voice.Snare accent f0 a decay c k = k
knobs_of Voice.SyntheticSnare accent f0 a decay c k = k
knobs_of Voice.Hihat accent f0 a decay c k = k

-- ---- a line that stands for a cue has passed every question, and says what its fields say
pub record Passed (w : Walk) (line : List ℕ) (s : Strike) : Type 0 where
  pub few : w.cues < 64
  pub fields : Fields
  pub formed : read_fields line ≡ Some fields
  pub read : s ≡ record { start = fields.start; cue = cue_of fields }
  pub inside : s.start < w.head.length
  pub least : w.least_start ≤ s.start
  pub knobs : KnobsOf s.cue

pub cue-passed : (w : Walk) (line : List ℕ) {s : Strike} → read_cue w line ≡ says s → Passed w line s
unfolding read_cue cue_of
cue-passed w line {s} h =
    let few = passed (ltb w.cues 64) 10 _ h in
    let formed = read (read_fields line) 8 _ few.1 in
    let f : Fields = formed.0 in
    let inside = passed (ltb f.start w.head.length) 9 _ formed.2 in
    let least = passed (leb w.least_start f.start) 9 _ inside.1 in
    let frequency = passed (is_frequency f.f0) 3 _ least.1 in
    let accent = passed (is_unit f.accent) 4 _ frequency.1 in
    let a = passed (is_unit f.a) 5 _ accent.1 in
    let decay = passed (is_decay f.voice f.decay) 5 _ a.1 in
    let c = passed (is_unit f.c) 5 _ decay.1 in
    let same : record { start = f.start; cue = cue_of f } ≡ s = cc c.1 in
    rw (← same) record {
      few = ltb-true w.cues 64 few.0;
      fields = f;
      formed = formed.1;
      read = refl;
      inside = ltb-true f.start w.head.length inside.0;
      least = leb-true w.least_start f.start least.0;
      knobs =
          knobs_of f.voice f.accent f.f0 f.a f.decay f.c
          record { frequency = frequency.0; accent_in = accent.0; a_in = a.0; decay_in = decay.0; c_in = c.0 };
    }
