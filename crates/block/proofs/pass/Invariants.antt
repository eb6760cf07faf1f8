use Rattle.block.specs.Loop.{Computes}
use Rattle.block.proofs.Blocks.{Going}
use Rattle.block.proofs.pass.Given as goal

abbrev pub invariant-loop-sample : goal.invariant-loop-sample
invariant-loop-sample g l = (stage : _) → Computes (goal.F-post g l.turn) stage → Going stage l.initial.state l.initial.out l.initial.out l.state l.out l.sample-index
