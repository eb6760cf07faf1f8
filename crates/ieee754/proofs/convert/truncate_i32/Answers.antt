-- The whole part of x or of -x, held at an end of the range.
use mathlib.Core.Path.{◌≡◌, ◌∙◌}
use mathlib.Core.Bool.{true, false}
use Prim.Native.Nat.{ℕ, zero, suc, ◌-◌, ◌^◌, ◌<◌, min}
use native.Mathlib.Nat.{le_of_lt, min-eq_left, min-eq_right}
use native.Mathlib.Omega.{arith}
use lib.Dec.{lit≤, lit<}
use lib.IntN.{pos, neg_ℤ, ◌-ℤ◌, +ℤ_idl}
use lib.Ieee.{Float, binary32, of_bits, to_signed, to_unsigned, neg, lt}
use mir.Syntax.{w32}
use mir.Val.{SFits, to_z}
use mir.ValLaws.{to_z_pos, to_z-of_z}
use Rattle.ieee754.proofs.Whole.{signed_plus, signed_minus}
use Rattle.ieee754.proofs.convert.truncate_i32.Goals as goal

-- x is below 0
minus : (x : Float) {n : ℕ} → n ≡ to_unsigned 64 (neg x) → lt x (of_bits binary32 0) ≡ true → to_signed 31 x ≡ neg_ℤ (pos (min n (2 ^ 31)))
unfolding of_bits
minus x e h = rw e (signed_minus 31 64 x (lit< tt) h)

-- x is not below 0
plus : (x : Float) {n : ℕ} → n ≡ to_unsigned 64 x → lt x (of_bits binary32 0) ≡ false → to_signed 31 x ≡ pos (min n (2 ^ 31 - 1))
unfolding of_bits
plus x e h = rw e (signed_plus 31 64 x (lit≤ tt) h)

-- 0 - n, as the machine works it out
negated : (n : ℕ) → n < 2 ^ 31 → pos 0 -ℤ to_z w32 n ≡ neg_ℤ (pos n)
negated n h = rw (to_z_pos w32 n h) (+ℤ_idl (neg_ℤ (pos n)))

negated_fits : (n : ℕ) → n < 2 ^ 31 → SFits w32 (pos 0 -ℤ to_z w32 n)
negated_fits n h = rw (negated n h) (go n h)
  where
    go : (n : ℕ) → n < 2 ^ 31 → SFits w32 (neg_ℤ (pos n))
    go zero h = record { sfits = h }
    go (suc n) h = record { sfits = omega arith }

pub returns-then-n-ge2147483648 : goal.returns-then-n-ge2147483648
returns-then-n-ge2147483648 c = rw (minus _ c.truncate_u64-n.ensures c.if-x.true, min-eq_right c.if-n-ge2147483648.true)

pub returns-else-n-ge2147483648 : goal.returns-else-n-ge2147483648
returns-else-n-ge2147483648 c = let h = c.if-n-ge2147483648.false in rw (minus _ c.truncate_u64-n.ensures c.if-x.true, min-eq_left (le_of_lt h)) (to_z-of_z w32 _ (negated_fits _ h) ∙ negated _ h)

pub returns-else-x : goal.returns-else-x
returns-else-x c = rw (plus _ c.truncate_u64.ensures c.if-x.false, ← c.min.ensures) (to_z_pos w32 _ (omega (arith, c.min.ensures)))
