-- Line by line the definition, the last call first.
use lib.Ieee.{round, of_bits}
use Rattle.hihat.specs.Hihat.{settings}
use Rattle.hihat.proofs.Knobs.settings.Goals as goal

pub returns : goal.returns
unfolding settings round of_bits
returns c =
    rw (c.clamp-2.ensures, c.q.ensures, c.clamp.ensures, c.semitones_to_ratio-3.ensures.value)
    (rw (c.increments.ensures, c.semitones_to_ratio-2.ensures.value)
    (rw (c.semitones_to_ratio.ensures.value, c.new-gain.ensures, c.into.ensures)))
