-- A call of `strike` or of `run`, refused or accepted, leaves the voice's rate as it was: no pass changes it.
use Rattle.std.proofs.Common.{◌≡◌, List, length, refl}
use lib.Ieee.{Float}
use Rattle.block.specs.Block.{Passed}
use Rattle.block.proofs.Blocks.{scanned_keeps}
use Rattle.refusal.specs.Refusal.{strike_refusal}
use Rattle.refusal.proofs.ByNumber.{call_keeps}
use Rattle.hihat.specs.declared.Hihat.{Hihat}
use Rattle.hihat.specs.declared.Knobs.{Knobs}
use Rattle.hihat.specs.declared.Settings.{Settings}
use Rattle.hihat.specs.declared.VcaType.{VcaType}
use Rattle.hihat.specs.Hihat as spec
use Rattle.hihat.specs.OnePass.{step}
use Rattle.hihat.proofs.OnePass.{five_passes}

passes_keep : (b : Settings) (p : Passed Hihat) → (spec.passes b p).state.sample_rate ≡ p.state.sample_rate
unfolding step spec.metallic spec.set_coloration spec.colored spec.clocked spec.amplified spec.set_hpf spec.high_passed
passes_keep b p = rw (five_passes b p, scanned_keeps (step b) (λ v. v.sample_rate) (λ v x. refl))

abbrev rate : Hihat → Float
rate v = v.sample_rate

pub strike_keeps_rate : (v : Hihat) (accent decay : Float) → (spec.strike v accent decay).state.sample_rate ≡ v.sample_rate
unfolding spec.triggered
strike_keeps_rate v accent decay = call_keeps rate (strike_refusal v.sample_rate accent decay) _ v refl

pub run_keeps_rate : (v : Hihat) (kind : VcaType) (k : Knobs) (out : List Float) → (spec.run v kind k out).state.sample_rate ≡ v.sample_rate
run_keeps_rate v kind k out = call_keeps rate (spec.run_refusal v.sample_rate k (length out)) _ v (passes_keep _ _)
