-- Strike and run as two calls: a strike and then a run with the same knobs are the Rust's triggered `render`, and a run alone is the untriggered one, for
-- every record, whether calls reach it or not, and every buffer, sustained or not, empty ones included. Definitions only.
use Rattle.std.specs.Prelude.{Float}
use Rattle.refusal.specs.StrikeAndRun.{StrikeAndRun, LastCounts}
use Rattle.synthetic_snare_drum.specs.SyntheticSnareDrum.{strike, run, render}
use Rattle.synthetic_snare_drum.specs.declared.SyntheticSnareDrum.{SyntheticSnareDrum}
use Rattle.synthetic_snare_drum.specs.declared.Knobs.{Knobs}

abbrev pub StrikeThenRun : Type 0
StrikeThenRun = (v : SyntheticSnareDrum) (k : Knobs) → StrikeAndRun v (λ trigger. render v trigger k) (strike v k.accent k.decay) (λ w. run w k)

-- a strike takes accent and decay
abbrev pub LastStrikeCounts : Type 0
LastStrikeCounts = LastCounts (λ v (taken : Float × Float). strike v taken.0 taken.1)
