-- Unsustained, the settings depend on the length in the interpolator's increment alone, which no turn reads; and a voice that is tuned stays so. What is
-- left is `block`'s law of a + b turns.
use Prim.Native.Nat.{ℕ, ◌+◌}
use native.Mathlib.Omega.{arith}
use mathlib.Core.Path.{◌≡◌, refl, ap, fun_ext}
use mathlib.Core.Bool.{false}
use lib.ListN.{length, length-append}
use lib.Ieee.{Float}
use Rattle.block.specs.Block.{after}
use Rattle.block.proofs.Blocks.{samples-add, after-add, after_holds}
use Rattle.refusal.specs.Rows.{InTwo, InRows}
use Rattle.refusal.proofs.ByNumber.{shorter_at_rate}
use Rattle.refusal.proofs.Rows.{in_rows}
use Rattle.filter.specs.OnePole as OnePole
use Rattle.filter.specs.Svf as Svf
use Rattle.filter.proofs.Tuned.{svf_stays, one_pole_stays}
use Rattle.synthetic_snare_drum.specs.SyntheticSnareDrum.{settings, tuned, step, run_refusal}
use Rattle.synthetic_snare_drum.specs.AnyBlockLength.{AnyBlockLength}
use Rattle.synthetic_snare_drum.specs.declared.SyntheticSnareDrum.{SyntheticSnareDrum}
use Rattle.synthetic_snare_drum.specs.declared.Knobs.{Knobs}
use Rattle.synthetic_snare_drum.specs.declared.Settings.{Settings}
use Rattle.synthetic_snare_drum.proofs.AlwaysDecays.{always_decays}

-- ---- the settings of an unsustained block, whatever its length, of two voices of one rate
module _ (v w : SyntheticSnareDrum) (k : Knobs) (m n : ℕ) where
  same_step : k.sustain ≡ false → v.sample_rate_hz ≡ w.sample_rate_hz → step (settings v k m) m ≡ step (settings w k n) n
  unfolding settings step
  same_step unsustained e = fun_ext (λ s. rw (unsustained, e, always_decays, always_decays))

  same-tuned : (u : SyntheticSnareDrum) → tuned u (settings v k m) ≡ tuned u (settings w k n)
  unfolding settings tuned
  same-tuned u = refl

-- ---- a voice that is tuned by these settings, and has this rate
record Tuned (b : Settings) (hz : Float) (v : SyntheticSnareDrum) : Type 0 where
  again : tuned v b ≡ v
  rate : v.sample_rate_hz ≡ hz

stays : (b : Settings) (size : ℕ) (hz : Float) (v : SyntheticSnareDrum) → Tuned b hz v → Tuned b hz (step b size v).next
unfolding tuned step
stays b size hz v t = record {
  again =
      rw (
        one_pole_stays _ _ _ (ap (λ (v : SyntheticSnareDrum). v.drum_lp) t.again),
        one_pole_stays _ _ _ (ap (λ (v : SyntheticSnareDrum). v.snare_hp) t.again),
        svf_stays _ _ _ _ (ap (λ (v : SyntheticSnareDrum). v.snare_lp) t.again),
      );
  rate = t.rate;
}

begins : (b : Settings) (v : SyntheticSnareDrum) → Tuned b v.sample_rate_hz (tuned v b)
unfolding tuned OnePole.set_f Svf.set_g_q Svf.set_g_r
begins b v = record { again = refl; rate = refl }

pub any_block_length : AnyBlockLength InTwo
unfolding run_refusal
any_block_length k unsustained v a b h =
    let n = length a + length b in
    let whole = rw length-append at h in
    let first = shorter_at_rate v.sample_rate_hz n _ whole (length a) (omega arith) in
    let second = shorter_at_rate v.sample_rate_hz n _ whole (length b) (omega arith) in
    let q = settings v k n in
    let t = after_holds (step q n) (Tuned q v.sample_rate_hz) (stays q n _) (length a) _ (begins q v) in
    let left = after (step q n) (length a) (tuned v q) in
    rw (
      length-append,
      whole,
      first,
      same_step v v k (length a) n unsustained refl,
      same-tuned v v k (length a) n v,
      same_step left v k (length b) n unsustained t.rate,
      same-tuned left v k (length b) n left,
      t.again,
      after-add,
      samples-add,
      t.rate,
      second,
    )

pub any_block_lengths : AnyBlockLength InRows
any_block_lengths k unsustained = in_rows _ (any_block_length k unsustained)
