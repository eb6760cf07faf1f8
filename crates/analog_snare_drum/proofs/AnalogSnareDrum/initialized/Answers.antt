-- The calls' values in the definition's record, and a mode at each place.
use Rattle.std.proofs.Common.{rules, []}
use lib.Ieee.{round, of_bits}
use Rattle.filter.specs.Svf.{ZERO, init}
use Rattle.analog_snare_drum.specs.AnalogSnareDrum.{filter_of, initialized}
use Rattle.analog_snare_drum.proofs.Five.{by_place}
use Rattle.analog_snare_drum.proofs.AnalogSnareDrum.initialized.Goals as goal

pub returns : goal.returns
unfolding initialized round of_bits
returns c =
    let modes = by_place ZERO (λ i. init (filter_of c.args.self.resonator i)) _ c.map-resonator.ensures.items.long
    (λ k h. let at = c.map-resonator.ensures.items.at k (filter_of [] 0) ZERO h in search rules) in
    rw (c.truncate_u32-2.ensures, c.truncate_u32.ensures, c.init-noise_filter.ensures, modes)
