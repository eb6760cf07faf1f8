-- A step of a walk over a sheet's cue lines. Definitions only.
use Rattle.std.specs.Prelude.{◌≡◌, ◌<◌, drop, length, Option, Result, Ok, Err, MatchOption, IfErr}
use Rattle.text.specs.Read.{first_line}
use Rattle.cue_sheet.specs.Answer.{number, Told, says, refused}
use Rattle.cue_sheet.specs.declared.line.Strike.{Strike}
use Rattle.cue_sheet.specs.CueLine.{read_cue}
use Rattle.cue_sheet.specs.Sheet.{next}
use Rattle.cue_sheet.specs.declared.walk.RefusedAt.{RefusedAt}
use Rattle.cue_sheet.specs.declared.walk.CueLines.{CueLines}

-- each case of the result
abbrev pub told_at : Result Strike RefusedAt → Told Strike
told_at (Ok strike) = says strike
told_at (Err e) = refused (number e.refusal)

-- what the first of the lines that are left says, a refusal with its line, and the walk after it
pub record Walked (s : CueLines) (line : Result Strike RefusedAt) (t : CueLines) : Type 0 where
  pub more : 0 < length s.rest.now
  pub told : told_at line ≡ read_cue s.walk (first_line s.rest.now)
  pub place : IfErr line (λ e. e.line ≡ s.walk.line)
  pub walk : t.walk ≡ next s.walk (first_line s.rest.now)
  pub rest : t.rest.now ≡ drop (length (first_line s.rest.now)) s.rest.now

-- at the sheet's end there is no further line
abbrev pub walks : CueLines → Option (Result Strike RefusedAt) → CueLines → Type 0
walks s r t = MatchOption r ((length s.rest.now ≡ 0) × (t ≡ s)) (λ line. Walked s line t)
