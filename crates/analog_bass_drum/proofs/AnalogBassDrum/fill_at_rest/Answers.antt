-- The loop's law of `block`; an excitation that is kept at rest stays right.
use native.Mathlib.Omega.{arith}
use Rattle.block.proofs.Blocks.{turn, end_source}
use Rattle.analog_bass_drum.proofs.Rest.{kept, sample_is}
use Rattle.analog_bass_drum.proofs.AnalogBassDrum.fill_at_rest.Goals as goal

pub loop-sample-preserved : goal.loop-sample-preserved
loop-sample-preserved c =
    let l = c.loop-sample in
    record {
      going = rw (c.step-voice.ensures, sample_is) (turn _ _ _ _ _ _ _ l.invariant.going (omega (arith, l.invariant.going.long)));
      kept = rw c.step-voice.ensures (kept _ _ _ l.invariant.kept);
    }

pub returns : goal.returns
returns c =
    let going = c.loop-sample.invariant.going in
    let p = end_source _ _ _ _ _ _ going (omega (arith, going.long)) in
    record { voice = p.0; out = p.1 }
