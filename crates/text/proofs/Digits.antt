-- The digits of a number that is written: the last one and those before it, and how many there are.
use Prim.Native.Nat.{ℕ, zero, suc, ◌/◌, ◌%◌, ◌^◌, ◌≤◌, ◌<◌}
use native.Mathlib.Nat.{pow-suc, not-suc-le-zero}
use native.Mathlib.Omega.{arith}
use native.Mathlib.Decide.{dec_lt}
use mathlib.Core.Path.{◌≡◌, refl}
use mathlib.Core.Bool.{Bool, true, false}
use mathlib.Core.List.{[], ◌∷◌, ◌++◌}
use lib.Dec.{ltb}
use lib.ListN.{length, length-append}
use borrow.Author.Tests.{lt-ltb, le-ltb}
use Rattle.text.specs.Write.{digit, decimal_within, decimal, pattern}

pub pattern-length : (n : ℕ) → length (pattern n) ≡ 8
unfolding pattern
pattern-length n = refl

-- more divisions than needed give no more digits
enough : (a b n : ℕ) → n ≤ a → n ≤ b → decimal_within a (ltb n 10) n ≡ decimal_within b (ltb n 10) n
unfolding decimal_within
enough zero zero n h k = refl
enough zero (suc b) n h k = rw (lt-ltb n 10 (omega arith))
enough (suc a) zero n h k = rw (lt-ltb n 10 (omega arith))
enough (suc a) (suc b) n h k = go (ltb n 10) (enough a b (n / 10) (omega arith) (omega arith))
  where
    go : (one : Bool) → decimal_within a (ltb (n / 10) 10) (n / 10) ≡ decimal_within b (ltb (n / 10) 10) (n / 10)
        → decimal_within (suc a) one n ≡ decimal_within (suc b) one n
    go true e = refl
    go false e = rw e

pub one_digit : (n : ℕ) → n < 10 → decimal n ≡ digit n ∷ []
unfolding decimal decimal_within
one_digit zero h = refl
one_digit (suc n) h = rw (lt-ltb (suc n) 10 h)

pub last-digit : (n : ℕ) → 10 ≤ n → decimal n ≡ decimal (n / 10) ++ digit (n % 10) ∷ []
unfolding decimal decimal_within
last-digit zero h = absurd (not-suc-le-zero h)
last-digit (suc n) h = rw (le-ltb (suc n) 10 h, enough n (suc n / 10) (suc n / 10) (omega arith) (omega arith))

-- a number below 10^(k + 1) has at most k + 1 digits
pub decimal-length : (k n : ℕ) → n < 10 ^ suc k → length (decimal n) ≤ suc k
decimal-length zero n h = rw (one_digit n h) (omega arith)
decimal-length (suc k) n h = go (dec_lt n 10) (decimal-length k (n / 10) (omega (arith, pow-suc 10 (suc k))))
  where
    go : Dec (n < 10) → length (decimal (n / 10)) ≤ suc k → length (decimal n) ≤ suc (suc k)
    go (yes l) p = rw (one_digit n l) (omega arith)
    go (no l) p = rw (last-digit n (omega arith), length-append) (omega arith)
