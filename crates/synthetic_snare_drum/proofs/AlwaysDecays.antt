-- The bitwise not of a number below 2 is not 0: the drum decays in every turn, whatever the size of the block.
use borrow.Author.Tests.{ne_eqb}
use mathlib.Core.Path.{◌≡◌, refl}
use mathlib.Core.Bool.{Bool, true, false, not, ◌||◌}
use Prim.Native.Nat.{ℕ, ◌-◌, ◌^◌}
use native.Mathlib.Omega.{arith}
use lib.Bits.{bit_and, and_le_r}
use lib.Dec.{eqb}

pub always_decays : (loud : Bool) (size : ℕ) → (loud || not (eqb (2 ^ 64 - 1 - bit_and size 1) 0)) ≡ true
always_decays true size = refl
always_decays false size = rw (ne_eqb (2 ^ 64 - 1 - bit_and size 1) 0 (λ e. omega (arith, and_le_r size 1)))
