-- The loop's law of `block`, and that of what is left of the block where the pulses have come to rest.
use native.Mathlib.Omega.{arith}
use mathlib.Core.Path.{◌∙◌}
use Rattle.block.proofs.Blocks.{turn, end_source, left-after, left-samples}
use Rattle.analog_bass_drum.proofs.Rest.{sample_is}
use Rattle.analog_bass_drum.proofs.AnalogBassDrum.fill.Goals as goal

pub returns-then-is_at_rest-clause-voice : goal.returns-then-is_at_rest-clause-voice
returns-then-is_at_rest-clause-voice c = c.fill_at_rest.ensures.voice ∙ left-after _ _ _ _ _ _ c.loop-i.invariant.going

pub returns-then-is_at_rest-clause-out : goal.returns-then-is_at_rest-clause-out
returns-then-is_at_rest-clause-out c = rw c.fill_at_rest.ensures.out (left-samples _ _ _ _ _ _ c.loop-i.invariant.going)

pub loop-i-preserved : goal.loop-i-preserved
loop-i-preserved c =
    let l = c.loop-i in
    record {
      going = rw (c.step-voice.ensures, sample_is) (turn _ _ _ _ _ _ _ l.invariant.going (omega (arith, l.invariant.going.long)));
      current = c.excitation-e-in-loop-i.ensures;
    }

pub returns : goal.returns
returns c =
    let going = c.loop-i.invariant.going in
    let p = end_source _ _ _ _ _ _ going (omega (arith, going.long)) in
    record { voice = p.0; out = p.1 }
