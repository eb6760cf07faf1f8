-- Differences and products of values that are known as fractions, zero included, and the sign of those that have a minus sign.
use borrow.Author.Tests.{le-ltb}
use mathlib.Core.Path.{◌≡◌, ap, ◌∙◌}
use mathlib.Core.Bool.{true, false, true≢false}
use Prim.Native.Nat.{ℕ, ◌-◌, ◌*◌, ◌≤◌, ◌<◌}
use native.Mathlib.Nat.{mul_comm, mul_assoc, mul_left_comm, mul_right_comm, mul-mul-mul_comm, mul-sub, mul-pos, mul-le-mul_right, eq_of_mul-eq-mul_right}
use native.Mathlib.Omega.{arith}
use lib.IntN.{ℤ}
use lib.Ieee.{Float, nan, inf, fin, Format, up, down, round, sum, sub, mul}
use lib.Ieee.Fits.{down_pos}
use lib.Ieee.Exact.{HasValue}
use lib.Ieee.Scale.{round_same}

-- ---- a / c that is b / d
pub revalued : (x : Float) (a c b d : ℕ) → 0 < c → a * d ≡ b * c → HasValue x false a c → HasValue x false b d
revalued nan a c b d C e v = v
revalued (inf s) a c b d C e v = v
revalued (fin s m k) a c b d C e v = (
  v.0,
  eq_of_mul-eq-mul_right c C _ _ (mul_right_comm (m * up k) d c ∙ rw (v.1, mul_right_comm a (down k) d, e) (mul_right_comm b c (down k))),
)

-- ---- m * 2 ^ e - i, for a whole i that is no larger
pub less_whole : (f : Format) (m : ℕ) (e : ℤ) (y : Float) (i : ℕ) → HasValue y false i 1 → i * down e ≤ m * up e
    → sub f (fin false m e) y ≡ round f false (m * up e - i * down e) (down e)
unfolding sub sum
less_whole f m e nan i v h = absurd v
less_whole f m e (inf s) i v h = absurd v
less_whole f m e (fin true n d) i v h = absurd (true≢false v.0)
less_whole f m e (fin false n d) i v h =
    let y : n * up d * down e ≡ i * down e * down d = omega (arith, ap (λ (z : ℕ). z * down e) v.1) in
    rw (y, le-ltb (m * up e * down d) (i * down e * down d) (mul-le-mul_right (down d) h))
    (round_same f false _ (down e * down d) (m * up e - i * down e) (down e) (mul-pos (down_pos e) (down_pos d)) (down_pos e)
    (spread (m * up e) (i * down e) (down e) (down d)))
  where
    spread : (x y c d : ℕ) → (x * d - y * d) * c ≡ (x - y) * (c * d)
    spread x y c d = rw (mul_comm x d, mul_comm y d, ← mul-sub d x y) (simp (mul_assoc, mul_comm, mul_left_comm))

-- ---- a / c times b / d
pub product : (f : Format) (x y : Float) (a c b d : ℕ) → 0 < c → 0 < d → HasValue x false a c → HasValue y false b d → mul f x y ≡ round f false (a * b) (c * d)
unfolding mul
product f nan y a c b d C D h k = absurd h
product f (inf s) y a c b d C D h k = absurd h
product f (fin true m e) y a c b d C D h k = absurd (true≢false h.0)
product f (fin false m e) nan a c b d C D h k = absurd k
product f (fin false m e) (inf s) a c b d C D h k = absurd k
product f (fin false m e) (fin true n g) a c b d C D h k = absurd (true≢false k.0)
product f (fin false m e) (fin false n g) a c b d C D h k =
    round_same f false (m * up e * (n * up g)) (down e * down g) (a * b) (c * d) (mul-pos (down_pos e) (down_pos g)) (mul-pos C D)
    (mul-mul-mul_comm (m * up e) (n * up g) c d ∙ rw (h.1, k.1) (mul-mul-mul_comm a (down e) b (down g)))
