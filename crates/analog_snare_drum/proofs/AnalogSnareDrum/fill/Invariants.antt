use Rattle.block.specs.Block.{source}
use Rattle.block.proofs.Blocks.{Going}
use Rattle.analog_snare_drum.specs.AnalogSnareDrum.{step}
use Rattle.analog_snare_drum.proofs.Rest.{Kept}
use Rattle.analog_snare_drum.proofs.AnalogSnareDrum.fill.Given as goal

abbrev pub invariant-loop-sample : goal.invariant-loop-sample
invariant-loop-sample l = record {
  going : Going (source (step l.settings)) l.initial.voice l.initial.out l.initial.out l.voice l.out l.sample-index;
  kept : Kept l.voice l.e l.at_rest;
}
