-- The answer to a sheet as one record. Definitions only.
use Rattle.cue_sheet.specs.Sheet.{SheetAnswer, accepted, refused_at}
use Rattle.console.specs.declared.sheet.SheetAnswered.{SheetAnswered}

abbrev pub sheet : SheetAnswer → SheetAnswered
sheet (accepted head cues) = record { number = 0; line = 0; rate = head.rate; length = head.length; cues = cues }
sheet (refused_at number line) = record { number = number; line = line; rate = 0; length = 0; cues = 0 }
