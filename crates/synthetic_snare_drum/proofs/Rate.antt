-- A call of `strike` or of `run`, refused or accepted, leaves the voice's rate as it was.
use mathlib.Core.Path.{◌≡◌, refl}
use mathlib.Core.List.{List}
use lib.ListN.{length}
use lib.Ieee.{Float}
use Rattle.block.proofs.Blocks.{after_keeps}
use Rattle.refusal.specs.Refusal.{strike_refusal}
use Rattle.refusal.proofs.ByNumber.{call_keeps}
use Rattle.synthetic_snare_drum.specs.declared.SyntheticSnareDrum.{SyntheticSnareDrum}
use Rattle.synthetic_snare_drum.specs.declared.Knobs.{Knobs}
use Rattle.synthetic_snare_drum.specs.SyntheticSnareDrum as spec

abbrev rate : SyntheticSnareDrum → Float
rate v = v.sample_rate_hz

pub strike_keeps_rate : (v : SyntheticSnareDrum) (accent decay : Float) → (spec.strike v accent decay).state.sample_rate_hz ≡ v.sample_rate_hz
unfolding spec.triggered
strike_keeps_rate v accent decay = call_keeps rate (strike_refusal v.sample_rate_hz accent decay) _ v refl

pub run_keeps_rate : (v : SyntheticSnareDrum) (k : Knobs) (out : List Float) → (spec.run v k out).state.sample_rate_hz ≡ v.sample_rate_hz
unfolding spec.tuned spec.step
run_keeps_rate v k out =
    let b = spec.settings v k (length out) in
    call_keeps rate (spec.run_refusal v.sample_rate_hz k (length out)) _ v (after_keeps (spec.step b (length out)) rate (λ w. refl) (length out) (spec.tuned v b))
