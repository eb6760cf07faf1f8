-- The definition's arms: a sustained block, one whose hold has ended, one that is held.
use borrow.Author.Tests.{ne_eqb}
use lib.Ieee.{round, of_bits}
use Rattle.synthetic_snare_drum.specs.Parts.{enveloped}
use Rattle.synthetic_snare_drum.proofs.SyntheticSnareDrum.enveloped.Goals as goal

pub returns-then-settings : goal.returns-then-settings
unfolding enveloped round of_bits
returns-then-settings c = rw (c.next-next.ensures, c.if-settings.true)

pub returns-then-self-eq0 : goal.returns-then-self-eq0
unfolding enveloped round of_bits
returns-then-self-eq0 c = rw (c.if-settings.false, c.if-self-eq0.true)

pub returns : goal.returns
unfolding enveloped round of_bits
returns c = rw (c.if-settings.false, ne_eqb _ _ c.if-self-eq0.false)
