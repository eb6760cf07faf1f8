-- What is rounded keeps its sign; and the negative of what has a minus sign is its magnitude.
use mathlib.Core.Path.{◌≡◌, refl, sym}
use mathlib.Core.Bool.{Bool, true, false, cond, true≢false}
use Prim.Native.Nat.{ℕ, zero, suc, ◌*◌, ◌+◌, ◌^◌}
use lib.Dec.{ltb}
use lib.Ieee.{Float, nan, inf, fin, Format, prec, emax, low, odd, units, round, neg}
use Rattle.ieee754.specs.Operations.{is_sign_minus, abs}

odd_sign : (d : ℕ) (s : Bool) (q k l : ℕ) → is_sign_minus (odd d s q k l) ≡ s
unfolding odd is_sign_minus
odd_sign d s zero k l = refl
odd_sign d s (suc q) k l = refl

units_sign : (f : Format) (s : Bool) (q k : ℕ) → is_sign_minus (units f s q k) ≡ s
unfolding units is_sign_minus
units_sign f s q k = go (ltb (q * 2 ^ k) (2 ^ (low f + suc (emax f))))
  where
    go : (b : Bool) → is_sign_minus (cond b (odd (suc (prec f)) s q k (low f)) (inf s)) ≡ s
    go true = odd_sign (suc (prec f)) s q k (low f)
    go false = refl

pub round_sign : (f : Format) (s : Bool) (n c : ℕ) → is_sign_minus (round f s n c) ≡ s
unfolding round
round_sign f s n c = units_sign f s _ _

pub minus_abs : (x : Float) → is_sign_minus x ≡ true → neg x ≡ abs x
unfolding is_sign_minus neg abs
minus_abs nan h = refl
minus_abs (inf true) h = refl
minus_abs (inf false) h = absurd (true≢false (sym h))
minus_abs (fin true m e) h = refl
minus_abs (fin false m e) h = absurd (true≢false (sym h))
