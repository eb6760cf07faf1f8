-- THE PORT'S OWN, which private contracts alone cite: the letter of a cue's voice. Definitions only.
use Rattle.std.specs.Prelude.{ℕ}
use Prim.Native.Char.{code}
use Rattle.cue_sheet.specs.declared.line.Cue.{Cue}
use Rattle.cue_sheet.specs.declared.line.Cue.TheVariants.{Bass, Snare, SyntheticSnare, Hihat}

abbrev pub letter_of : Cue → ℕ
letter_of (Bass accent f0 tone decay attack_fm_amount) = code "b"
letter_of (Snare accent f0 tone decay snappy) = code "s"
letter_of (SyntheticSnare accent f0 fm_amount decay snappy) = code "y"
letter_of (Hihat accent f0 tone decay noisiness) = code "h"
