-- `block`'s loop of a stage, over as many samples as the shorter slice has; `process` is its stage.
use Rattle.std.specs.Prelude.{◌<◌, length}
use native.Mathlib.Omega.{arith}
use lib.ListN.{length-take}
use lib.Seq.{get_or-take}
use lib.Ieee.{nan}
use Rattle.block.proofs.Blocks.{turn, end}
use Rattle.filter.specs.Svf.{stage}
use Rattle.filter.proofs.Svf.process_buffer.Goals as goal

pub returns : goal.returns
returns c =
    let over = simp length-take at c.loop-i-test.false in
    let p = end _ _ _ _ _ _ _ c.loop-i.invariant (simp length-take (omega arith)) in
    record { filter = p.0; out = p.1 }

pub loop-i-preserved : goal.loop-i-preserved
unfolding stage
loop-i-preserved c =
    let a = c.args in
    let i = c.loop-i.i in
    let within = simp length-take at c.loop-i-test.true in
    let read : i < c.min-n.result = omega arith in
    let written : i < length a.out.now = omega arith in
    rw (c.process-o.ensures, get_or-take c.min-n.result a.in_.now i nan read, ← get_or-take (length a.out.now) a.in_.now i nan written)
    (turn (stage a.mode) _ _ _ _ _ _ c.loop-i.invariant (simp length-take (omega arith)))
