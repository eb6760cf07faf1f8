-- The loop of `block`, which is a source's, over the increments of f0.
use Rattle.std.proofs.Common.{rules, ◌∙◌}
use Rattle.block.proofs.Blocks.{scan_source, scanned-source}
use Rattle.block.specs.Block.{source}
use Rattle.hihat.specs.SquareNoise.{turn}
use Rattle.hihat.proofs.square_noise.SquareNoise.render.Goals as goal

pub returns : goal.returns
returns c =
    let step = turn c.increments-increment.result in
    rw (← c.increments-increment.ensures) record {
      noise = c.pass.ensures.state (source step) (λ s x t p. search rules) ∙ scanned-source step _ _;
      out = c.pass.ensures.out (source step) (λ s x t p. search rules) ∙ scan_source step _ _;
    }
