-- The loop's law of `Blocks`, for whatever the turns compute.
use Rattle.std.proofs.Common.{arith, append-nil}
use lib.Seq.{drop-length}
use Rattle.block.proofs.Blocks.{begin, turn as going, end, unread}
use Rattle.block.proofs.pass.Goals as goal

pub loop-sample-init : goal.loop-sample-init
loop-sample-init g c = λ stage computes. begin stage _ _ _ (omega arith)

pub loop-sample-preserved : goal.loop-sample-preserved
loop-sample-preserved g c = λ stage computes.
    let l = c.loop-sample in
    let made = computes _ _ _ c.turn-t.ensures in
    let so-far = l.invariant stage computes in
    rw (made, unread so-far) (going stage _ _ _ _ _ _ so-far (omega (arith, c.loop-sample-test.true)))

pub returns : goal.returns
returns g c = record {
  state = λ stage computes. (end stage _ _ _ _ _ _ (c.loop-sample.invariant stage computes) c.loop-sample-test.false).0;
  out = λ stage computes. simp (drop-length, append-nil) at (end stage _ _ _ _ _ _ (c.loop-sample.invariant stage computes) c.loop-sample-test.false).1;
}
