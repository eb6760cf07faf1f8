-- Line by line the definition, in a sustained block and in any other.
use Rattle.hihat.specs.Hihat.{amplified}
use Rattle.hihat.proofs.Hihat.amplified.Goals as goal

pub returns-then-settings : goal.returns-then-settings
unfolding amplified
returns-then-settings c = rw (c.amplify.ensures, c.next-sustain_gain.ensures, c.decay.ensures, c.if-settings.true)

pub returns : goal.returns
unfolding amplified
returns c = rw (c.amplify-2.ensures, c.decay.ensures, c.if-settings.false)
