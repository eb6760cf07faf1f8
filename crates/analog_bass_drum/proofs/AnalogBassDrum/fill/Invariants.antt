use mathlib.Core.Path.{◌≡◌}
use Rattle.block.specs.Block.{source}
use Rattle.block.proofs.Blocks.{Going}
use Rattle.analog_bass_drum.specs.AnalogBassDrum.{step}
use Rattle.analog_bass_drum.specs.Excitation.{excitation}
use Rattle.analog_bass_drum.proofs.AnalogBassDrum.fill.Given as goal

abbrev pub invariant-loop-i : goal.invariant-loop-i
invariant-loop-i l = record {
  going : Going (source (step l.settings)) l.initial.voice l.initial.out l.initial.out l.voice l.out l.i;
  current : l.e ≡ excitation l.settings l.voice;
}
