-- The loop of `block`, of a stage that is fed one value.
use Rattle.std.proofs.Common.{rules, ◌∙◌}
use Rattle.block.proofs.Blocks.{scan-replicate, scanned-replicate}
use Rattle.synthetic_bass_drum.specs.Transient.{turn}
use Rattle.synthetic_bass_drum.proofs.SyntheticBassDrumTransient.held.Goals as goal

pub returns : goal.returns
returns c =
    let in_ = c.args.in_ in
    record {
      transient = c.pass.ensures.state (λ s x. turn s in_) (λ s x t p. search rules) ∙ scanned-replicate turn in_ _ _;
      out = c.pass.ensures.out (λ s x. turn s in_) (λ s x t p. search rules) ∙ scan-replicate turn in_ _ _;
    }
