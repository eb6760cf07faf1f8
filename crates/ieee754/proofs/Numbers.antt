-- Laws of whole numbers: squares, powers of two, binary digits, and the nearer of two neighbours.
use mathlib.Core.Path.{◌≡◌, sym, ap, ◌∙◌, subst}
use mathlib.Core.Bool.{not}
use Prim.Native.Nat.{ℕ, suc, ◌+◌, ◌-◌, ◌*◌, ◌/◌, ◌%◌, ◌^◌, ◌≤◌, ◌<◌, compare, Ordering}
use native.Mathlib.Nat.{le_antisymm, le_dest, lt-suc_self, div-lt_iff_lt-mul, lt_of_lt_of_le, lt_of_not-le, not-le_of_lt, mul-le-mul, mul-le-mul_right, mul-lt-mul_of_pos_right}
use native.Mathlib.Decide.{dec_le}
use native.Mathlib.Omega.{arith}
use lib.Arith.{lt_of_le-ne}
use lib.Dec.{T, is_le, compare_is_eq, eqb, leb→le, nleb→lt, eqb→eq, eqb_refl}
use lib.Pow.{pow-add, pow_pos, pow_mono}
use lib.Ieee.{size, nearest}
use lib.Ieee.Digits.{size-lt, size-le, back}

pub sq_lt_back : {a b : ℕ} → a * a < b * b → a < b
sq_lt_back {a} {b} h = lt_of_not-le (λ (g : b ≤ a). not-le_of_lt h (mul-le-mul g g))

-- four times a product is at most the square of the sum
four_le : (a b : ℕ) → 4 * (a * b) ≤ (a + b) * (a + b)
four_le a b = elim (dec_le a b) [
  | yes h ↦ let d = le_dest h in rw (← d.1) (omega arith)
  | no h ↦ let d = le_dest {n = b} {m = a} (omega arith) in rw (← d.1) (omega arith)
]

-- Heron's rule: the mean of g and of n / g is not below the root of n without its fraction
pub heron : (n g : ℕ) → 0 < g → let r = (g + n / g) / 2 in n < suc r * suc r
heron n g some =
    let q = n / g in
    let s : g + suc q ≤ 2 * suc ((g + q) / 2) = omega arith in
    omega (arith, (div-lt_iff_lt-mul {k = g} {x = n} {y = suc q} some).0 (lt-suc_self q), four_le g (suc q), mul-le-mul s s)

pub pow_swap : (a b c d : ℕ) → a + b ≡ c + d → 2 ^ a * 2 ^ b ≡ 2 ^ c * 2 ^ d
pow_swap a b c d e = sym (pow-add 2 a b) ∙ ap (λ (k : ℕ). 2 ^ k) e ∙ pow-add 2 c d

-- 2 ^ b with the factor 2 ^ a taken out
pub pow_split : (a b : ℕ) → a ≤ b → 2 ^ b ≡ 2 ^ (b - a) * 2 ^ a
pow_split a b h = ap (λ (k : ℕ). 2 ^ k) (sym (back b a h)) ∙ pow-add 2 (b - a) a

-- how many binary digits n has
pub size_gt : (j n : ℕ) → 2 ^ j ≤ n → j < size n
size_gt j n h = lt_of_not-le (λ (g : size n ≤ j). not-le_of_lt (lt_of_lt_of_le (size-lt n) (pow_mono g)) h)

pub size_exact : (j n : ℕ) → 2 ^ j ≤ n → n < 2 ^ suc j → size n ≡ suc j
size_exact j n lo hi = le_antisymm (size-le n (suc j) hi) (size_gt j n lo)

-- and with k zeros after them
pub shifted : (j n k : ℕ) → 2 ^ j ≤ n → n < 2 ^ suc j → (2 ^ (j + k) ≤ n * 2 ^ k) × (n * 2 ^ k < 2 ^ suc (j + k))
shifted j n k lo hi =
    let h : n < 2 * 2 ^ j = omega arith in
    omega (arith, pow-add 2 j k, mul-le-mul_right (2 ^ k) lo, mul-lt-mul_of_pos_right h (pow_pos k))

pub size_shifted : (j n k : ℕ) → 2 ^ j ≤ n → n < 2 ^ suc j → size (n * 2 ^ k) ≡ suc (j + k)
size_shifted j n k lo hi = let s = shifted j n k lo hi in size_exact (j + k) (n * 2 ^ k) s.0 s.1

-- q or its neighbour, by how a compares with b: whatever holds in each of the three cases
pub nearest_by : (P : ℕ → Type 0) (q a b : ℕ) → (a < b → P q) → (a ≡ b → P (q + q % 2)) → (b < a → P (suc q)) → P (nearest q (compare a b))
nearest_by P q a b less tie more =
    go (compare a b) (leb→le a b) (nleb→lt a b) (eqb→eq a b) (λ (e : a ≡ b). subst (λ (x : ℕ). T (eqb a x)) e (eqb_refl a))
  where
    go : (o : Ordering) → (T (is_le o) → a ≤ b) → (T (not (is_le o)) → b < a) → (T (compare_is_eq o) → a ≡ b) → (a ≡ b → T (compare_is_eq o)) → P (nearest q o)
    go Ordering.lt h k e n = less (lt_of_le-ne (h tt) n)
    go Ordering.eq h k e n = tie (e tt)
    go Ordering.gt h k e n = more (k tt)
