-- A loop that fills the buffer towards the sums.
use Rattle.std.proofs.Common.{arith}
use Rattle.track.proofs.Mixed.{mixed-length}
use Rattle.cue_render.proofs.Fill.{fill_begin, fill_turn, fill_end, mixed_at}
use Rattle.cue_render.proofs.mix.add_to.Goals as goal

pub loop-i-init : goal.loop-i-init
loop-i-init c = fill_begin (mixed-length _ _)

pub loop-i-preserved : goal.loop-i-preserved
loop-i-preserved c =
    let l = c.loop-i in
    fill_turn (mixed-length _ _) l.invariant (omega (arith, c.loop-i-test.true, c.requires, l.auto.out)) (λ h held. mixed_at _ _ _ h c.requires held)

pub returns : goal.returns
returns c = fill_end (mixed-length _ _) c.loop-i.invariant (omega (arith, c.loop-i-test.false, c.requires, c.loop-i.auto.out))
