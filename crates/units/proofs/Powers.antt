-- Bounds at a power: `A ^ k * u ≤ B ^ k * v` says that A is at most B times the k-th root of v / u.
-- How such bounds are multiplied, and shown in two stages. Every power is a variable here, so that nothing large is worked out.
use mathlib.Core.Path.{◌≡◌}
use Prim.Native.Nat.{ℕ, zero, suc, ◌*◌, ◌^◌, ◌≤◌, ◌<◌}
use native.Mathlib.Nat.{le_trans, mul_comm, mul_assoc, mul_left_comm, mul-zero, mul-suc, mul-mul-mul_comm}
use native.Mathlib.Nat.{mul-le-mul, mul-le-mul_left, le_of_mul-le-mul_left, one-le-pow, pow-zero, pow-suc, pow-le-pow_left}
use lib.Pow.{pow-add}

pub mul-pow : (a b k : ℕ) → (a * b) ^ k ≡ a ^ k * b ^ k
mul-pow a b zero = simp pow-zero
mul-pow a b (suc k) = simp (pow-suc, mul-pow a b k, mul-mul-mul_comm)

pub pow-mul : (a j k : ℕ) → a ^ (j * k) ≡ (a ^ j) ^ k
pow-mul a j zero = simp (mul-zero, pow-zero)
pow-mul a j (suc k) = simp (mul-suc, pow-add, pow-suc, pow-mul a j k)

-- ---- Two bounds at the power k and a plain one are a third at the power k, times what both sides share, P.
module _ (k P : ℕ) where
  multiplied : (A a a' c u u' : ℕ) → a * a' * c ≡ P * A → a ^ k * u * (a' ^ k * u') * c ^ k ≡ P ^ k * (A ^ k * (u * u'))
  multiplied A a a' c u u' e = rw (← mul_assoc (P ^ k), ← mul-pow P A k, ← e) (simp (mul-pow, mul_assoc, mul_comm, mul_left_comm))

  pub joined : (A B a b a' b' c d u v u' v' : ℕ) → 0 < P → a * a' * c ≡ P * A → b * b' * d ≡ P * B
      → a ^ k * u ≤ b ^ k * v → a' ^ k * u' ≤ b' ^ k * v' → c ≤ d → A ^ k * (u * u') ≤ B ^ k * (v * v')
  joined A B a b a' b' c d u v u' v' room e f first second third =
      let all = mul-le-mul (mul-le-mul first second) (pow-le-pow_left third k) in
      le_of_mul-le-mul_left (rw (multiplied A a a' c u u' e, multiplied B b b' d v v' f) at all) (one-le-pow k P room)

-- ---- Two stages: a bound at the power a, by numbers of few digits, and bounds at the power b for those
pub staged : (a b A B p q u v : ℕ) → A ^ a * p ≤ B ^ a * q → u ≤ p ^ b → q ^ b ≤ v → A ^ (a * b) * u ≤ B ^ (a * b) * v
staged a b A B p q u v h low high =
    let power = rw (mul-pow (A ^ a) p b, mul-pow (B ^ a) q b) at (pow-le-pow_left h b) in
    rw (pow-mul A a b, pow-mul B a b) (le_trans (mul-le-mul_left ((A ^ a) ^ b) low) (le_trans power (mul-le-mul_left ((B ^ a) ^ b) high)))
