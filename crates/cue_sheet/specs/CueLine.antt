-- A line of a cue sheet after the first: the questions that it must pass, and its cue. Definitions only.
use Rattle.std.specs.Prelude.{ℕ, Bool, List, nat_le, nat_lt, Float, Result, Ok, Err}
use Rattle.refusal.specs.Refusal.{is_frequency, is_unit, is_bass_decay}
use Rattle.cue_sheet.specs.declared.voice.Voice.{Voice}
use Rattle.cue_sheet.specs.declared.line.Cue.{Cue}
use Rattle.cue_sheet.specs.declared.line.Cue.TheVariants.{Bass, Snare, SyntheticSnare, Hihat}
use Rattle.cue_sheet.specs.declared.line.Fields.{Fields}
use Rattle.cue_sheet.specs.declared.answer.SheetRefusal.{SheetRefusal}
use Rattle.cue_sheet.specs.Answer.{number, Told, says, refused, ◌>>=◌, ◌>>◌, ask, ask_for}
use Rattle.cue_sheet.specs.declared.line.Strike.{Strike}
use Rattle.cue_sheet.specs.declared.line.Walk.{Walk}
use Rattle.cue_sheet.specs.Fields.{read_fields}

-- ---- the cue: a is the tone, or the fm_amount of y, and c what the voice has last
abbrev pub cue : Voice → Float → Float → Float → Float → Float → Cue
cue Voice.Bass accent f0 a decay c = Bass accent f0 a decay c
cue Voice.Snare accent f0 a decay c = Snare accent f0 a decay c
cue Voice.SyntheticSnare accent f0 a decay c = SyntheticSnare accent f0 a decay c
cue Voice.Hihat accent f0 a decay c = Hihat accent f0 a decay c

unfoldable pub cue_of : Fields → Cue
cue_of f = cue f.voice f.accent f.f0 f.a f.decay f.c

-- each case of the result
abbrev pub told : Result Strike SheetRefusal → Told Strike
told (Ok strike) = says strike
told (Err r) = refused (number r)

-- the decay of a bass goes up to 2.0, that of any other voice up to 1.0
unfoldable pub is_decay : Voice → Float → Bool
is_decay Voice.Bass decay = is_bass_decay decay
is_decay Voice.Snare decay = is_unit decay
is_decay Voice.SyntheticSnare decay = is_unit decay
is_decay Voice.Hihat decay = is_unit decay

-- the questions in their order: fewer than 64 cues so far; the start below the sheet's length and not below the least one, which is 0 at first and
-- then one above the start before; and what the voices ask of their knobs
unfoldable pub read_cue : Walk → List ℕ → Told Strike
read_cue w line = do
  ask (nat_lt w.cues 64) 10
  f ← ask_for (read_fields line) 8
  ask (nat_lt f.start w.head.length) 9
  ask (nat_le w.least_start f.start) 9
  ask (is_frequency f.f0) 3
  ask (is_unit f.accent) 4
  ask (is_unit f.a) 5
  ask (is_decay f.voice f.decay) 5
  ask (is_unit f.c) 5
  says (record { start = f.start; cue = cue_of f })
