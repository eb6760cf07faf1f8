-- Heron's rule: at the loop's head `root` is not below the root without its fraction.
use Prim.Native.Nat.{ℕ, ◌+◌, ◌/◌, ◌^◌, ◌<◌}
use native.Mathlib.Nat.{div-lt_iff_lt-mul}
use native.Mathlib.Omega.{arith}
use Rattle.ieee754.proofs.Numbers.{heron}
use Rattle.ieee754.proofs.root.extract_root.Goals as goal

-- the sizes of the guesses
abbrev guess : ℕ → ℕ
guess n = n / 24445000 + 5757000

abbrev better : ℕ → ℕ
better n = (guess n + n / guess n) / 2

guess_quotient : (n : ℕ) → n < 2 ^ 48 → n / guess n < 2 ^ 26
guess_quotient n h = (div-lt_iff_lt-mul {k = guess n} (omega arith)).1 (omega arith)

better_quotient : (n : ℕ) → n < 2 ^ 48 → n / better n < 2 ^ 27
better_quotient n h = (div-lt_iff_lt-mul {k = better n} (omega arith)).1 (omega arith)

pub loop-root-init : goal.loop-root-init
loop-root-init c = let n = c.args.n in (omega (arith, guess_quotient n c.requires, better_quotient n c.requires), heron n (better n) (omega arith))
