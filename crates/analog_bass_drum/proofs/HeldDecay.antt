-- From 3fcccccc on the pitch of a decay is 256 or more, so its ratio is held; that of 3fcccccb is at the last place of both tables, where the ratio is held.
use mathlib.Core.Path.{◌≡◌, refl, ap}
use mathlib.Core.Bool.{true, false}
use Prim.Native.Nat.{ℕ, ◌+◌, ◌*◌}
use native.Mathlib.Omega.{arith}
use lib.Dec.{T, lit<}
use lib.IntN.{ℤ, pos, negsuc}
use lib.Ieee.{Float, nan, inf, fin, binary32, up, down, round, of_bits, of_int, to_unsigned, add, sub, mul, sum, le, lt}
use lib.Ieee.Bits.{is_true}
use lib.Ieee.Fits.{and_l, and_r, down_pos}
use lib.Ieee.Back.{round_whole}
use lib.Ieee.Order.{le_of_values, round_mono}
use lib.Ieee.Positive.{positive, num, den, den_pos, own_value, le→cross, between, mul_mono}
use Rattle.ieee754.specs.Single.{◌⊗◌, decimal}
use Rattle.refusal.specs.Refusal.{within, is_bass_decay}
use Rattle.units.specs.Units.{pitch_of, ratio_at, ratio}
use Rattle.units.specs.Accuracy.{InTables}
use Rattle.analog_bass_drum.specs.AnalogBassDrum.{settings, run_refusal, knobs_refusal}
use Rattle.analog_bass_drum.specs.HeldDecay.{first_past, last_in_tables, decay_pitch, IsPast, HeldDecay}

-- ---- the pitch: 80 times the first decay past the tables is 128 - 2 ^ -17, whose sum with 128 is rounded to 256; so is that of what is larger
computed : (first_past ⊗ decimal 80 0 ≡ fin false 16777215 (negsuc 16)) × (decimal 128 0 ≡ fin false 1 (pos 7))
    × (decimal 256 0 ≡ round binary32 false 33554431 131072)
unfolding mul round of_bits
computed = (refl, refl, refl {a = fin false 1 (pos 8)})

sum_is : (m : ℕ) (e : ℤ) → pitch_of (fin false m e) ≡ round binary32 false (m * up e * 1 + 128 * down e) (down e * 1)
unfolding add sum
sum_is m e = ap (add binary32 (fin false m e)) computed.1

past : (x : Float) → T (positive x) → T (le (fin false 16777215 (negsuc 16)) x) → T (le (decimal 256 0) (pitch_of x))
past nan p l = absurd p
past (inf s) p l = absurd p
past (fin true m e) p l = absurd p
past (fin false m e) p l =
    let h = le→cross (fin false 16777215 (negsuc 16)) (fin false m e) tt p l in
    rw (computed.2, sum_is m e)
    (round_mono binary32 33554431 131072 (m * up e * 1 + 128 * down e) (down e * 1) (lit< tt) (omega (arith, down_pos e)) (omega (arith, h)))

last-passes : true ≡ is_bass_decay last_in_tables
unfolding is_bass_decay within le round of_bits
last-passes = refl

-- ---- the ratio: that of the last decay in the tables is at place 255 of both
last-held : ratio_at 255 255 ≡ ratio (last_in_tables ⊗ decimal 80 0)
unfolding ratio round of_bits of_int to_unsigned add sub mul le
last-held = refl

last_in : InTables (decay_pitch last_in_tables)
unfolding round of_bits add mul le lt
last_in = (tt, tt)

module _ (decay : Float) (h : IsPast decay) where
  range : T (le first_past decay) × T (le decay (decimal 2 0))
  unfolding within
  range = (and_l (le first_past decay) (le decay (decimal 2 0)) h, and_r (le first_past decay) (le decay (decimal 2 0)) h)

  some : T (positive decay)
  unfolding round of_bits
  some = between first_past decay (decimal 2 0) tt tt range.0 range.1

  semitones : T (le (first_past ⊗ decimal 80 0) (decay ⊗ decimal 80 0)) × T (le (decay ⊗ decimal 80 0) (decimal 2 0 ⊗ decimal 80 0))
  unfolding round of_bits le
  semitones = (
    mul_mono binary32 first_past decay (decimal 80 0) (decimal 80 0) tt some tt tt range.0 tt,
    mul_mono binary32 decay (decimal 2 0) (decimal 80 0) (decimal 80 0) some tt tt tt range.1 tt,
  )

  beyond : T (le (decimal 256 0) (decay_pitch decay))
  unfolding round of_bits mul
  beyond =
      let low = semitones.0 in
      let some-semitones = between (first_past ⊗ decimal 80 0) (decay ⊗ decimal 80 0) (decimal 2 0 ⊗ decimal 80 0) tt tt low semitones.1 in
      past (decay ⊗ decimal 80 0) some-semitones (rw computed.0 at low)

  held : ratio (decay ⊗ decimal 80 0) ≡ ratio (last_in_tables ⊗ decimal 80 0)
  unfolding ratio
  held = rw (is_true (le (decimal 256 0) (decay_pitch decay)) beyond) last-held

  passes : is_bass_decay decay ≡ is_bass_decay last_in_tables
  unfolding is_bass_decay within
  passes =
      let zero = round_whole binary32 false 0 (omega arith) in
      let from-0 = le_of_values (decimal 0 0) decay 0 1 (num decay) (den decay) (lit< tt) (den_pos decay) zero (own_value decay some) (omega arith) in
      rw (is_true (le (decimal 0 0) decay) from-0, is_true (le decay (decimal 2 0)) range.1) last-passes

pub held-decay : HeldDecay
unfolding settings run_refusal knobs_refusal
held-decay = record {
  last = last_in;
  past = beyond;
  same = λ v k out h. rw (held k.decay h, passes k.decay h);
}
