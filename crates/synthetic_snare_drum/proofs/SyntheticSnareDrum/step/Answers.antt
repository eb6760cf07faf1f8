-- The last call first; the drum always decays.
use lib.Ieee.{round, of_bits}
use Rattle.synthetic_snare_drum.specs.SyntheticSnareDrum.{step}
use Rattle.synthetic_snare_drum.specs.Parts.{enveloped}
use Rattle.synthetic_snare_drum.proofs.AlwaysDecays.{always_decays}
use Rattle.synthetic_snare_drum.proofs.SyntheticSnareDrum.step.Goals as goal

pub returns : goal.returns
unfolding step enveloped round of_bits
returns c size =
    rw (c.process-high.ensures, c.process-low.ensures, c.get_float-draw.ensures, c.process-drum.ensures)
    (rw (c.distorted_sine-2.ensures, c.distorted_sine.ensures, c.reset-phase_1.ensures, c.reset-phase_0.ensures)
    (rw (c.reset_sign-2.ensures, c.reset_sign.ensures, c.clamp-amount.ensures)
    (rw (c.enveloped-v.ensures, always_decays))))
