use mathlib.Core.Path.{◌≡◌}
use Rattle.analog_snare_drum.proofs.Tuning.{past}
use Rattle.analog_snare_drum.proofs.tuned_modes.Given as goal

abbrev pub invariant-loop-i : goal.invariant-loop-i
invariant-loop-i l = l.tuned ≡ past l.resonator l.f0 l.q l.i
