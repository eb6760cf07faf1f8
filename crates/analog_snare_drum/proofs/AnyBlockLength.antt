-- The settings do not depend on the length, and a voice that is tuned stays so: what is left is `block`'s law of a + b turns.
use Prim.Native.Nat.{ℕ, ◌+◌}
use native.Mathlib.Omega.{arith}
use mathlib.Core.Path.{◌≡◌, refl, ap}
use lib.ListN.{length, length-append}
use Rattle.block.proofs.Blocks.{samples-add, after-add, after_holds}
use Rattle.refusal.specs.Rows.{InTwo, InRows}
use Rattle.refusal.proofs.ByNumber.{shorter}
use Rattle.refusal.proofs.Rows.{in_rows}
use Rattle.filter.specs.Svf as Filter
use Rattle.filter.specs.declared.Svf.{Svf}
use Rattle.filter.proofs.Tuned.{svf_stays}
use Rattle.analog_snare_drum.specs.AnalogSnareDrum.{filter_of, settings, tuned_mode, tuned, mode_output, shell_output, step, run_refusal}
use Rattle.analog_snare_drum.specs.AnyBlockLength.{AnyBlockLength}
use Rattle.analog_snare_drum.specs.declared.AnalogSnareDrum.{AnalogSnareDrum}
use Rattle.analog_snare_drum.specs.declared.Settings.{Settings}

-- to tune it again changes nothing
abbrev Tuned : Settings → AnalogSnareDrum → Type 0
Tuned b v = tuned b v ≡ v

begins : (b : Settings) (v : AnalogSnareDrum) → Tuned b (tuned b v)
unfolding tuned tuned_mode Filter.set_g_q Filter.set_g_r
begins b v = refl

abbrev mode : ℕ → AnalogSnareDrum → Svf
mode i v = filter_of v.resonator i

stays : (b : Settings) (v : AnalogSnareDrum) → Tuned b v → Tuned b (step b v).next
unfolding tuned tuned_mode step shell_output mode_output
stays b v e =
    rw (
      svf_stays _ _ _ _ (ap (mode 0) e),
      svf_stays _ _ _ _ (ap (mode 1) e),
      svf_stays _ _ _ _ (ap (mode 2) e),
      svf_stays _ _ _ _ (ap (mode 3) e),
      svf_stays _ _ _ _ (ap (mode 4) e),
      svf_stays _ _ _ _ (ap (λ (v : AnalogSnareDrum). v.noise_filter) e),
    )

pub any_block_length : AnyBlockLength InTwo
unfolding run_refusal
any_block_length k v a b h =
    let whole = rw length-append at h in
    let first = shorter (length a) (length a + length b) _ (omega arith) whole in
    let second = shorter (length b) (length a + length b) _ (omega arith) whole in
    let q = settings k in
    let again = after_holds (step q) (Tuned q) (stays q) (length a) _ (begins q v) in
    rw (length-append, whole, first, second, again, after-add, samples-add)

pub any_block_lengths : AnyBlockLength InRows
any_block_lengths k = in_rows _ (any_block_length k)
