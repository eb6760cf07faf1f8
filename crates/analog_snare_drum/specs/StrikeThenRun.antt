-- Strike and run as two calls: a strike and then a run with the same knobs are the Rust's triggered `render`, and a run alone is the untriggered one, for
-- every record, whether calls reach it or not, and every buffer, empty ones included. Definitions only.
use Rattle.std.specs.Prelude.{Float}
use Rattle.refusal.specs.StrikeAndRun.{StrikeAndRun, LastCounts}
use Rattle.analog_snare_drum.specs.AnalogSnareDrum.{strike, run, render}
use Rattle.analog_snare_drum.specs.declared.AnalogSnareDrum.{AnalogSnareDrum}
use Rattle.analog_snare_drum.specs.declared.Knobs.{Knobs}

abbrev pub StrikeThenRun : Type 0
StrikeThenRun = (v : AnalogSnareDrum) (accent : Float) (k : Knobs) → StrikeAndRun v (λ trigger. render v trigger accent k) (strike v accent) (λ w. run w k)

abbrev pub LastStrikeCounts : Type 0
LastStrikeCounts = LastCounts strike
