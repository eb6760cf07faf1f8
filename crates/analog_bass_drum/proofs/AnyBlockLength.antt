-- The settings do not depend on the length, and a shorter block passes the same questions: what is left is `block`'s law of a + b turns.
use Prim.Native.Nat.{◌+◌}
use native.Mathlib.Omega.{arith}
use lib.ListN.{length, length-append}
use Rattle.block.proofs.Blocks.{samples-add, after-add}
use Rattle.refusal.specs.Rows.{InTwo, InRows}
use Rattle.refusal.proofs.ByNumber.{shorter}
use Rattle.refusal.proofs.Rows.{in_rows}
use Rattle.analog_bass_drum.specs.AnalogBassDrum.{run_refusal}
use Rattle.analog_bass_drum.specs.AnyBlockLength.{AnyBlockLength}

pub any_block_length : AnyBlockLength InTwo
unfolding run_refusal
any_block_length k v a b h =
    let whole = rw length-append at h in
    let first = shorter (length a) (length a + length b) _ (omega arith) whole in
    let second = shorter (length b) (length a + length b) _ (omega arith) whole in
    rw (length-append, whole, first, second, after-add, samples-add)

pub any_block_lengths : AnyBlockLength InRows
any_block_lengths k = in_rows _ (any_block_length k)
