-- The loop of `block`, which is a source's.
use Rattle.std.proofs.Common.{rules, length, ◌∙◌}
use Rattle.block.proofs.Blocks.{scan_source, scanned-source}
use Rattle.block.specs.Block.{source}
use Rattle.synthetic_snare_drum.specs.SyntheticSnareDrum.{step}
use Rattle.synthetic_snare_drum.proofs.SyntheticSnareDrum.fill.Goals as goal

pub returns : goal.returns
returns c =
    let turn = step c.args.settings (length c.args.out.now) in
    record {
      voice = c.pass.ensures.state (source turn) (λ s x t p. search rules) ∙ scanned-source turn _ _;
      out = c.pass.ensures.out (source turn) (λ s x t p. search rules) ∙ scan_source turn _ _;
    }
