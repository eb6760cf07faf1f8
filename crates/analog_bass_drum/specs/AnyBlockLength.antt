-- Any audio block length: an accepted run is a run over its first samples and then runs over the others, with the same knobs, for every record, struck or not,
-- whether calls reach it or not. Definitions only.
use Rattle.refusal.specs.Rows.{Law}
use Rattle.analog_bass_drum.specs.AnalogBassDrum.{run}
use Rattle.analog_bass_drum.specs.declared.AnalogBassDrum.{AnalogBassDrum}
use Rattle.analog_bass_drum.specs.declared.Knobs.{Knobs}

-- the theorems are AnyBlockLength InTwo, a run in two, and AnyBlockLength InRows, in any number of runs
abbrev pub AnyBlockLength : Law AnalogBassDrum → Type 0
AnyBlockLength Holds = (k : Knobs) → Holds (λ v. run v k)
