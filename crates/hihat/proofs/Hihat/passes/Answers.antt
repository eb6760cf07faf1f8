-- The loop of `block`, of which a turn is the five passes in one.
use Rattle.std.proofs.Common.{rules}
use Rattle.hihat.specs.OnePass.{step}
use Rattle.hihat.proofs.OnePass.{five_passes}
use Rattle.hihat.proofs.Hihat.passes.Goals as goal

pub returns : goal.returns
returns c =
    let stage = step c.args.settings in
    let tuned = c.tuned.ensures in
    rw five_passes record {
      voice = rw tuned at (c.pass.ensures.state stage (λ s x t p. search rules));
      out = rw tuned at (c.pass.ensures.out stage (λ s x t p. search rules));
    }
