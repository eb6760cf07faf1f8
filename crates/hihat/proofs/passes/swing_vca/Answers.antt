-- Line by line the definition.
use lib.Ieee.{round, of_bits}
use Rattle.hihat.specs.Hihat.{swing_vca}
use Rattle.hihat.proofs.passes.swing_vca.Goals as goal

pub returns : goal.returns
unfolding swing_vca round of_bits
returns c = rw (c.abs.ensures, c.drive-driven.ensures)
