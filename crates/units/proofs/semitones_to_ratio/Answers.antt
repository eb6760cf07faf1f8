-- The laws of `Accuracy`, for each of the two answers; both places are below 256.
use lib.Ieee.{of_bits, round}
use Rattle.units.proofs.Accuracy.{held, pitch_places, looked_up}
use Rattle.units.proofs.semitones_to_ratio.Goals as goal

pub returns-then-pitch : goal.returns-then-pitch
unfolding round of_bits
returns-then-pitch c =
    let p = held _ c.if-pitch.true _ c.ratio_at.ensures in
    record { value = p.0; accurate = p.1 }

pub overflow_cast-pitch_integral : goal.overflow_cast-pitch_integral
unfolding round of_bits
overflow_cast-pitch_integral c = record { fits = rw c.truncate_usize-pitch_integral.ensures (pitch_places _ c.if-pitch.false).integral_below }

pub returns : goal.returns
unfolding round of_bits
returns c =
    let p = looked_up _ c.if-pitch.false _ (rw (c.ratio_at-2.ensures, c.truncate_usize-step.ensures, c.truncate_usize-pitch_integral.ensures)) in
    record { value = p.0; accurate = p.1 }
