-- The loop's law of `block`; an excitation that is kept at rest stays right.
use native.Mathlib.Omega.{arith}
use Rattle.block.proofs.Blocks.{turn, end_source}
use Rattle.analog_snare_drum.proofs.Rest.{kept}
use Rattle.analog_snare_drum.proofs.AnalogSnareDrum.fill.Goals as goal

pub returns : goal.returns
returns c =
    let going = c.loop-sample.invariant.going in
    let p = end_source _ _ _ _ _ _ going (omega (arith, going.long)) in
    record { voice = p.0; out = p.1 }

-- a turn that keeps the excitation, and one that makes it anew
pub loop-sample-preserved-then-at_rest : goal.loop-sample-preserved-then-at_rest
loop-sample-preserved-then-at_rest c =
    let l = c.loop-sample in
    record {
      going = rw c.step-turn.ensures (turn _ _ _ _ _ _ _ l.invariant.going (omega (arith, l.invariant.going.long)));
      kept = rw c.step-turn.ensures (kept _ _ _ _ c.if-at_rest.true l.invariant.kept);
    }

pub loop-sample-preserved : goal.loop-sample-preserved
loop-sample-preserved c =
    let l = c.loop-sample in
    record {
      going = rw c.step-turn.ensures (turn _ _ _ _ _ _ _ l.invariant.going (omega (arith, l.invariant.going.long)));
      kept = record { current = c.excitation-e-in-loop-sample.ensures; rest = c.is_at_rest-at_rest-in-loop-sample.ensures.0 };
    }
