-- The definition's two arms, by the kind of the VCA.
use Rattle.hihat.specs.Hihat.{amplify}
use Rattle.hihat.proofs.passes.amplify.Goals as goal

pub returns-in-Swing : goal.returns-in-Swing
unfolding amplify
returns-in-Swing c = rw (c.swing_vca.ensures, c.in-Swing.is)

pub returns-in-Linear : goal.returns-in-Linear
unfolding amplify
returns-in-Linear c = rw (c.linear_vca.ensures, c.in-Linear.is)
