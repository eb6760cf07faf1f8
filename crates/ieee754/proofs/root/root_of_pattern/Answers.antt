-- A value above 0 is a significand at its place, a subnormal one moved up to it.
use mathlib.Core.Path.{◌≡◌, sym, ap, ◌∙◌}
use mathlib.Core.Bool.{false}
use Prim.Native.Nat.{ℕ, suc, ◌+◌, ◌-◌, ◌*◌, ◌/◌, ◌%◌, ◌^◌, ◌≤◌, ◌<◌}
use native.Mathlib.Nat.{le_trans, lt_of_not-le, not-le_of_lt, mod-eq_of_lt, mul_assoc, mul-one, mul-pos}
use native.Mathlib.Omega.{arith}
use lib.Count.{count_leading_zeros, leading_top}
use lib.Dec.{T}
use lib.Pow.{pow-add, pow_mono, pow_pos}
use lib.Ieee.{Float, binary32, fits, to_bits}
use lib.Ieee.Exact.{HasValue}
use Rattle.ieee754.proofs.Fields.{significand, significand_is, value}
use Rattle.ieee754.proofs.Numbers.{shifted}
use Rattle.ieee754.proofs.root.Cut.{of_value}
use Rattle.ieee754.proofs.root.root_of_pattern.Goals as goal

units_of : (x : Float) {bits : ℕ} → bits < 0x7f80_0000 → T (fits binary32 x) → to_bits binary32 x ≡ bits
    → HasValue x false (significand binary32 (bits / 2 ^ 23) (bits % 2 ^ 23) * 2 ^ (bits / 2 ^ 23 - 1)) (2 ^ 149)
units_of x finite held is = rw is at (value binary32 x held (omega arith) (omega arith))

-- ---- a subnormal number is `bits` units, and its leading digit moves to bit 23

module _ (bits : ℕ) (some : 0 < bits) (subnormal : bits / 2 ^ 23 ≡ 0) where
  abbrev z : ℕ
  z = count_leading_zeros 32 bits

  small : bits < 2 ^ 23
  small = omega arith

  lead : (j : ℕ) × (z + suc j ≡ 32) × (2 ^ j ≤ bits) × (bits < 2 ^ suc j)
  lead = leading_top 32 bits some (omega (arith, small))

  zeros : 9 ≤ z
  zeros = let l : lead.0 < 23 = lt_of_not-le (λ (g : 23 ≤ lead.0). not-le_of_lt small (le_trans (pow_mono g) lead.2)) in omega (arith, lead.1)

  moved : (2 ^ 23 ≤ bits * 2 ^ (z - 8)) × (bits * 2 ^ (z - 8) < 2 ^ 24)
  moved = let p : lead.0 + (z - 8) ≡ 23 = omega (arith, lead.1, zeros) in rw p at (shifted lead.0 bits (z - 8) lead.2 lead.3)

  whole : bits * 2 ^ (z - 8) % 2 ^ 32 ≡ bits * 2 ^ (z - 8)
  whole = mod-eq_of_lt (omega (arith, moved))

  places : bits * 2 ^ 126 ≡ bits * 2 ^ (z - 8) * 2 ^ (134 - z)
  places =
      let e : 126 ≡ z - 8 + (134 - z) = omega (arith, zeros, lead.1) in
      ap (λ (k : ℕ). bits * 2 ^ k) e ∙ rw (pow-add 2 (z - 8) (134 - z)) (sym (mul_assoc bits (2 ^ (z - 8)) (2 ^ (134 - z))))

pub returns-then-exponent-gt0 : goal.returns-then-exponent-gt0
returns-then-exponent-gt0 c x held is =
    let e = c.args.bits / 2 ^ 23 in
    let q = 2 ^ 23 + c.args.bits % 2 ^ 23 in
    let places : q * 2 ^ (e - 1) * 2 ^ 126 ≡ q * 2 ^ (e + 125) =
    mul_assoc q (2 ^ (e - 1)) (2 ^ 126) ∙ ap (λ (k : ℕ). q * k) (sym (pow-add 2 (e - 1) 126)) ∙ ap (λ (k : ℕ). q * 2 ^ k) (omega arith) in
    c.rounded_root.ensures (q * 2 ^ (e - 1)) (rw c.significand.ensures places)
    ∙ sym (of_value binary32 x (q * 2 ^ (e - 1)) (mul-pos (omega arith) (pow_pos (e - 1)))
    (rw (significand_is binary32 e (c.args.bits % 2 ^ 23) c.if-exponent-gt0.true) at (units_of x c.requires.finite held is)))

pub returns-else-exponent-gt0 : goal.returns-else-exponent-gt0
returns-else-exponent-gt0 c x held is =
    let bits = c.args.bits in
    let some = c.requires.above_zero in
    let none : bits / 2 ^ 23 ≡ 0 = omega arith in
    c.rounded_root-else-exponent-gt0.ensures bits (rw (whole bits some none) (places bits some none))
    ∙ sym (of_value binary32 x bits some (rw (none, mul-one, mod-eq_of_lt (small bits some none)) at (units_of x c.requires.finite held is)))

pub overflow_sub-zeros-else-exponent-gt0 : goal.overflow_sub-zeros-else-exponent-gt0
overflow_sub-zeros-else-exponent-gt0 c = omega (arith, zeros c.args.bits c.requires.above_zero (omega arith))

pub rounded_root-requires-else-exponent-gt0 : goal.rounded_root-requires-else-exponent-gt0
rounded_root-requires-else-exponent-gt0 c =
    let none : c.args.bits / 2 ^ 23 ≡ 0 = omega arith in
    let m = moved c.args.bits c.requires.above_zero none in
    rw (whole c.args.bits c.requires.above_zero none) (record { place_fits = omega arith; full = m.0; few = m.1 })
