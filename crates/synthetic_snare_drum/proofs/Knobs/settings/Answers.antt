-- Line by line the definition, the last call first.
use lib.Ieee.{round, of_bits}
use Rattle.synthetic_snare_drum.specs.SyntheticSnareDrum.{settings}
use Rattle.synthetic_snare_drum.proofs.Knobs.settings.Goals as goal

pub returns : goal.returns
unfolding settings round of_bits
returns c = rw (c.sqrt-2.ensures, c.sqrt.ensures, c.semitones_to_ratio-2.ensures.value, c.semitones_to_ratio.ensures.value)
    (rw (c.new-sustain_gain.ensures, c.into.ensures, c.clamp-snappy.ensures))
