-- Any audio block length: an accepted, unsustained run is a run over its first samples and then runs over the others, with the same knobs, for every record,
-- struck or not, the noise state in it, whether calls reach it or not. A sustained run is excepted, since its gain slides over its own length. Definitions only.
use Rattle.std.specs.Prelude.{◌≡◌, false}
use Rattle.refusal.specs.Rows.{Law}
use Rattle.synthetic_snare_drum.specs.SyntheticSnareDrum.{run}
use Rattle.synthetic_snare_drum.specs.declared.SyntheticSnareDrum.{SyntheticSnareDrum}
use Rattle.synthetic_snare_drum.specs.declared.Knobs.{Knobs}

-- the theorems are AnyBlockLength InTwo, a run in two, and AnyBlockLength InRows, in any number of runs
abbrev pub AnyBlockLength : Law SyntheticSnareDrum → Type 0
AnyBlockLength Holds = (k : Knobs) → k.sustain ≡ false → Holds (λ v. run v k)
