-- The low 32 bits of a product, put together from three products of 16-bit halves: for all numbers, so for every two of 32 bits.
use Rattle.std.proofs.Common.{◌≡◌, ℕ, ◌+◌, ◌*◌, ◌/◌, ◌%◌, ◌^◌, div-add-mod', arith}
use Rattle.random.proofs.wrapping_mul.Goals as goal

-- two numbers in halves, multiplied out
multiplied : (ah al bh bl : ℕ) → (ah * 2 ^ 16 + al) * (bh * 2 ^ 16 + bl) ≡ al * bl + (ah * bl + al * bh) * 2 ^ 16 + ah * bh * 2 ^ 32
multiplied ah al bh bl = omega arith

-- as the code puts them together: a number is shifted by 16 by a product with 2^16 or a quotient
halves : (a b : ℕ) →
    ((a % 2 ^ 16 * (b % 2 ^ 16) + a / 2 ^ 16 * (b % 2 ^ 16) * 2 ^ 16 % 2 ^ 32) % 2 ^ 32 + a % 2 ^ 16 * (b / 2 ^ 16) * 2 ^ 16 % 2 ^ 32) % 2 ^ 32 ≡ a * b % 2 ^ 32
halves a b =
    omega (arith, rw (div-add-mod' a (2 ^ 16), div-add-mod' b (2 ^ 16)) at (multiplied (a / 2 ^ 16) (a % 2 ^ 16) (b / 2 ^ 16) (b % 2 ^ 16)))

pub returns : goal.returns
returns c = rw (c.wrapping_add_u32.ensures.value, c.wrapping_add_u32-a_times_b_low.ensures.value, c.mul16.ensures, c.mul16-2.ensures, c.mul16-3.ensures)
    (halves c.args.a c.args.b)
