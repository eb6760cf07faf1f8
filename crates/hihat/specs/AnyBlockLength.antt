-- Any audio block length: an accepted, unsustained run is a run over its first samples and then runs over the others, with the same knobs, for every record,
-- struck or not, the noise state in it, whether calls reach it or not. A sustained run is excepted, since its gain slides over its own length. Definitions only.
use Rattle.std.specs.Prelude.{◌≡◌, false, Float}
use Rattle.block.specs.AnyLengths.{AnyLengths}
use Rattle.refusal.specs.Rows.{Law}
use Rattle.hihat.specs.SquareNoise as SquareNoise
use Rattle.hihat.specs.Hihat.{run}
use Rattle.hihat.specs.declared.Hihat.{Hihat}
use Rattle.hihat.specs.declared.Knobs.{Knobs}
use Rattle.hihat.specs.declared.VcaType.{VcaType}

-- the theorems are AnyBlockLength InTwo, a run in two, and AnyBlockLength InRows, in any number of runs
abbrev pub AnyBlockLength : Law Hihat → Type 0
AnyBlockLength Holds = (vca_type : VcaType) (k : Knobs) → k.sustain ≡ false → Holds (λ v. run v vca_type k)

-- the square noise by itself, which refuses nothing: at every f0, a NaN too. A buffer filled by this turn is what its render promises
abbrev pub AnyNoiseLength : Type 0
AnyNoiseLength = (f0 : Float) → AnyLengths (SquareNoise.turn (SquareNoise.increments f0))
