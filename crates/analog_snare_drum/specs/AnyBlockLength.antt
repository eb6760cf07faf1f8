-- Any audio block length: an accepted run is a run over its first samples and then runs over the others, with the same knobs, for every record, struck or not,
-- the noise state in it, whether calls reach it or not. Definitions only.
use Rattle.refusal.specs.Rows.{Law}
use Rattle.analog_snare_drum.specs.AnalogSnareDrum.{run}
use Rattle.analog_snare_drum.specs.declared.AnalogSnareDrum.{AnalogSnareDrum}
use Rattle.analog_snare_drum.specs.declared.Knobs.{Knobs}

-- the theorems are AnyBlockLength InTwo, a run in two, and AnyBlockLength InRows, in any number of runs
abbrev pub AnyBlockLength : Law AnalogSnareDrum → Type 0
AnyBlockLength Holds = (k : Knobs) → Holds (λ v. run v k)
