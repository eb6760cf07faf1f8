-- Each pass takes the turn that the one before it left.
use Rattle.std.proofs.Common.{◌≡◌, ap, ◌∙◌}
use lib.Ieee.{Float}
use Rattle.block.specs.declared.Turn.{Turn}
use Rattle.block.specs.Block.{source}
use Rattle.block.specs.OnePass.{then}
use Rattle.hihat.specs.Hihat.{metallic, colored, clocked, amplified, high_passed}
use Rattle.hihat.specs.OnePass.{step}
use Rattle.hihat.proofs.OnePass.{two, three, four}
use Rattle.hihat.proofs.Hihat.step.Goals as goal

through : {S : Type 0} (f g : S → Float → Turn S) (s : S) (x : Float) (t u : Turn S) → t ≡ f s x → u ≡ g t.next t.sample → u ≡ then f g s x
through {S = S} f g s x t u first second = second ∙ ap (λ (t : Turn S). g t.next t.sample) first

pub returns : goal.returns
unfolding step
returns c = λ x.
    let args = c.args in
    let b = args.settings in
    let s = args.self in
    let second = through (source (metallic b)) colored s x _ _ c.metallic-metallic.ensures c.colored-colored.ensures in
    let third = through (two b) (clocked b) s x _ _ second c.clocked-clocked.ensures in
    let fourth = through (three b) (amplified b) s x _ _ third c.amplified-amplified.ensures in
    through (four b) high_passed s x _ _ fourth c.high_passed.ensures
