-- n with its leading digit at bit 31, without its last byte, is n rounded (`Whole`).
use mathlib.Core.Path.{◌≡◌, sym}
use Prim.Native.Nat.{ℕ, suc, ◌+◌, ◌-◌, ◌*◌, ◌/◌, ◌%◌, ◌^◌, ◌≤◌, ◌<◌, compare}
use native.Mathlib.Nat.{mod-eq_of_lt}
use native.Mathlib.Omega.{arith}
use lib.Count.{count_leading_zeros, leading_top}
use lib.Dec.{lit≤}
use lib.Ieee.{binary32, of_bits, of_int, nearest}
use lib.Ieee.Fits.{nearest-le}
use lib.Ieee.Nearest.{nearest-ge}
use Rattle.ieee754.proofs.Numbers.{shifted}
use Rattle.ieee754.proofs.Whole.{of_int_packed}
use Rattle.ieee754.proofs.convert.nearest_f32.Goals as goal

-- the leading digit of n, and n with it moved to bit 31
module _ (n : ℕ) (positive : 0 < n) (fits : n < 2 ^ 32) where
  abbrev z : ℕ
  z = count_leading_zeros 32 n

  lead : (j : ℕ) × (z + suc j ≡ 32) × (2 ^ j ≤ n) × (n < 2 ^ suc j)
  lead = leading_top 32 n positive fits

  moved : (2 ^ 31 ≤ n * 2 ^ z) × (n * 2 ^ z < 2 ^ 32)
  moved = let p : lead.0 + z ≡ 31 = omega (arith, lead.1) in rw p at (shifted lead.0 n z lead.2 lead.3)

  whole : n * 2 ^ z % 2 ^ 32 ≡ n * 2 ^ z
  whole = mod-eq_of_lt moved.1

pub returns-then-n-eq0 : goal.returns-then-n-eq0
unfolding of_bits of_int
returns-then-n-eq0 c = rw c.if-n-eq0.true

pub packed-requires : goal.packed-requires
packed-requires c =
    let n = c.args.n in
    let positive : 0 < n = omega (arith, c.if-n-eq0.false) in
    let fits : n < 2 ^ 32 = c.ranges.n.fits in
    let m = n * 2 ^ z n positive fits in
    let o = compare (m % 256 * 2) 256 in
    let is : c.without_last_byte.result ≡ nearest (m / 256) o = rw (whole n positive fits) at c.without_last_byte.ensures in
    omega (arith, is, moved n positive fits, nearest-ge (m / 256) o, nearest-le (m / 256) o)

pub returns : goal.returns
returns c =
    let n = c.args.n in
    let positive : 0 < n = omega (arith, c.if-n-eq0.false) in
    let fits : n < 2 ^ 32 = c.ranges.n.fits in
    let place : 157 - z n positive fits ≡ suc (lead n positive fits).0 + 149 - 24 = omega (arith, (lead n positive fits).1) in
    rw (c.packed.ensures, c.without_last_byte.ensures, whole n positive fits, place)
    (sym (of_int_packed binary32 32 (z n positive fits) (lead n positive fits).0 n (lit≤ tt) (lead n positive fits).1 (lead n positive fits).2 (lead n positive fits).3))
