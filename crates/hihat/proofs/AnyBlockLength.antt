-- Unsustained, the settings depend on the length in the interpolator's increment alone, which no pass reads; and a voice that is tuned stays so. What is
-- left is `block`'s law of a stage over two buffers.
use Rattle.std.proofs.Common.{◌≡◌, ℕ, false, ◌++◌, length, refl, ap, arith, length-append}
use mathlib.Core.Path.{fun_ext}
use lib.Ieee.{Float}
use Rattle.block.specs.Block.{Passed, scanned, pass, setting}
use Rattle.block.proofs.Blocks.{any_lengths, scan-append, scanned-append, scanned_holds}
use Rattle.refusal.specs.Rows.{InTwo, InRows}
use Rattle.refusal.proofs.ByNumber.{shorter_at_rate}
use Rattle.refusal.proofs.Rows.{in_rows}
use Rattle.filter.specs.Svf as Svf
use Rattle.filter.proofs.Tuned.{svf_stays}
use Rattle.hihat.specs.Hihat.{settings, metallic, set_coloration, colored, clocked, decay, amplified, set_hpf, high_passed, passes, run_refusal}
use Rattle.hihat.specs.OnePass.{tuned, step}
use Rattle.hihat.specs.AnyBlockLength.{AnyBlockLength, AnyNoiseLength}
use Rattle.hihat.specs.declared.Hihat.{Hihat}
use Rattle.hihat.specs.declared.Knobs.{Knobs}
use Rattle.hihat.specs.declared.Settings.{Settings}
use Rattle.hihat.specs.declared.VcaType.{VcaType}
use Rattle.hihat.proofs.OnePass.{five_passes}

-- ---- the passes of an unsustained block, whatever its length, of two voices of one rate
module _ (v w : Hihat) (kind : VcaType) (k : Knobs) (m n : ℕ) (unsustained : k.sustain ≡ false) (e : v.sample_rate ≡ w.sample_rate) where
  same_step : step (settings v kind k m) ≡ step (settings w kind k n)
  unfolding settings step metallic clocked amplified decay
  same_step = fun_ext (λ u. fun_ext (λ x. rw unsustained))

  same-tuned : (u : Hihat) → tuned (settings v kind k m) u ≡ tuned (settings w kind k n) u
  unfolding settings set_coloration set_hpf
  same-tuned u = rw e

  same-pass : (p : Passed Hihat)
      → passes (settings v kind k m) p ≡ pass (step (settings w kind k n)) (setting (tuned (settings w kind k n)) p)
  same-pass p = rw (five_passes, same_step, same-tuned p.state)

-- ---- a voice that is tuned by these settings, and has this rate
record Tuned (b : Settings) (hz : Float) (v : Hihat) : Type 0 where
  again : tuned b v ≡ v
  rate : v.sample_rate ≡ hz

begins : (b : Settings) (v : Hihat) → Tuned b v.sample_rate (tuned b v)
unfolding set_coloration set_hpf Svf.set_g_q Svf.set_g_r
begins b v = record { again = refl; rate = refl }

stays : (b : Settings) (hz : Float) (v : Hihat) (x : Float) → Tuned b hz v → Tuned b hz (step b v x).next
unfolding step metallic set_coloration colored clocked amplified set_hpf high_passed
stays b hz v x t = record {
  again =
      rw (
        svf_stays _ _ _ _ (ap (λ (u : Hihat). u.noise_coloration_svf) t.again),
        svf_stays _ _ _ _ (ap (λ (u : Hihat). u.hpf) t.again),
      );
  rate = t.rate;
}

pub any_block_length : AnyBlockLength InTwo
unfolding run_refusal
any_block_length kind k unsustained v a b h =
    let n = length (a ++ b) in
    let first = shorter_at_rate v.sample_rate n _ h (length a) (omega (arith, length-append a b)) in
    let second = shorter_at_rate v.sample_rate n _ h (length b) (omega (arith, length-append a b)) in
    let q = settings v kind k n in
    let t = scanned_holds (step q) (Tuned q v.sample_rate) (stays q _) _ a (begins q v) in
    let left = scanned (step q) (tuned q v) a in
    rw (
      h,
      first,
      same-pass v v kind k n n unsustained refl,
      same-pass v v kind k (length a) n unsustained refl,
      same-pass left v kind k (length b) n unsustained t.rate,
      t.again,
      scan-append,
      scanned-append,
      t.rate,
      second,
    )

pub any_block_lengths : AnyBlockLength InRows
any_block_lengths kind k unsustained = in_rows _ (any_block_length kind k unsustained)

pub any_noise_length : AnyNoiseLength
any_noise_length f0 = any_lengths _
