use Rattle.std.specs.Prelude.{length, take}
use Rattle.block.proofs.Blocks.{Going}
use Rattle.filter.specs.Svf.{stage}
use Rattle.filter.proofs.Svf.process_buffer.Given as goal

abbrev pub invariant-loop-i : goal.invariant-loop-i
invariant-loop-i l = Going (stage l.mode) l.initial.filter (take (length l.initial.out) l.in_) l.initial.out l.filter l.out l.i
