-- A voice's samples before mixing depend on nothing but the sheet's rate and length and the voice's own cue lines. Definitions only.
use Rattle.std.specs.Prelude.{ℕ, ◌≡◌, cond, List, [], ◌∷◌, eqb, drop}
use Rattle.text.specs.Read.{body, field, lines}
use Rattle.cue_sheet.specs.Fields.{letter}
use Rattle.cue_sheet.specs.Sheet.{accepted, judge, strikes}
use Rattle.cue_sheet.specs.declared.Head.{Head}
use Rattle.track.specs.Track.{Player, track}

-- of these lines, those whose second field is the voice's letter
unfoldable pub lines_of : ℕ → List (List ℕ) → List (List ℕ)
lines_of voice [] = []
lines_of voice (line ∷ lines) =
    let own = lines_of voice lines in
    cond (eqb (letter (field 1 (body line))) voice) (line ∷ own) own

-- the voice's cue lines in a sheet, byte for byte
abbrev pub cue_lines : ℕ → List ℕ → List (List ℕ)
cue_lines voice sheet = lines_of voice (drop 1 (lines sheet))

-- for any two accepted sheets of one rate and length with the same cue lines of this voice, its track is the same
abbrev pub OwnLinesOnly : {Voice : Type 0} → Player Voice → Type 0
OwnLinesOnly p =
    (sheet sheet' : List ℕ) (head : Head) (cues cues' : ℕ) → judge sheet ≡ accepted head cues → judge sheet' ≡ accepted head cues'
    → cue_lines p.letter sheet ≡ cue_lines p.letter sheet'
    → track p head (strikes head sheet) ≡ track p head (strikes head sheet')
