use mathlib.Core.Path.{◌≡◌}
use Rattle.analog_snare_drum.specs.declared.ShellOutput.{ShellOutput}
use Rattle.analog_snare_drum.proofs.Shell.{past}
use Rattle.analog_snare_drum.proofs.AnalogSnareDrum.shell_output.Given as goal

abbrev pub invariant-loop-i : goal.invariant-loop-i
invariant-loop-i l = ◌≡◌ {A = ShellOutput} (record { resonator = l.resonator; shell = l.shell }) (past l.settings l.fn.self.resonator l.first l.other l.i)
