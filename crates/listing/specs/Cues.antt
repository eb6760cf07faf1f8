-- What the program `cues` prints for its input. Definitions only.
use Rattle.std.specs.Prelude.{ℕ, suc, List, [], ◌∷◌, ◌++◌, Float}
use Rattle.std.specs.Float.{binary32}
use Rattle.std.specs.Float.Ieee.{to_bits}
use Rattle.cue_render.specs.Render.{samples}
use Rattle.cue_sheet.specs.Sheet.{SheetAnswer, accepted, refused_at, judge, strikes}
use Rattle.text.specs.Write as Write
use Rattle.text.specs.Write.{ascii}

-- the sample's index and its pattern; every not-a-number has one pattern, 7fc00000
unfoldable pub row : ℕ → Float → List ℕ
row index x = Write.decimal index ++ ascii "," ++ Write.pattern (to_bits binary32 x) ++ ascii "\n"

-- the rows of samples, the first of which has the index n
unfoldable pub rows : ℕ → List Float → List ℕ
rows n [] = []
rows n (x ∷ xs) = row n x ++ rows (suc n) xs

unfoldable pub answer : SheetAnswer → List ℕ → List ℕ
answer (accepted head cues) sheet = ascii "sample,bits\n" ++ rows 0 (samples head (strikes head sheet))
answer (refused_at number line) sheet = Write.refused number line

unfoldable pub text : List ℕ → List ℕ
text sheet = answer (judge sheet) sheet
