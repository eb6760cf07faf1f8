use Rattle.block.specs.Block.{source}
use Rattle.block.proofs.Blocks.{Going}
use Rattle.analog_bass_drum.specs.AnalogBassDrum.{step}
use Rattle.analog_bass_drum.proofs.Rest.{Kept}
use Rattle.analog_bass_drum.proofs.AnalogBassDrum.fill_at_rest.Given as goal

abbrev pub invariant-loop-sample : goal.invariant-loop-sample
invariant-loop-sample l = record {
  going : Going (source (step l.settings)) l.initial.voice l.initial.out l.initial.out l.voice l.out l.sample-index;
  kept : Kept l.settings l.voice l.e;
}
