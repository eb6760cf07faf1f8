-- Numbers that are equal: of one sign they are one value.
use mathlib.Core.Path.{◌≡◌, refl, sym, subst}
use mathlib.Core.Bool.{true, false, not, ◌||◌, beq, false≢true}
use Prim.Native.Nat.{◌*◌}
use lib.Dec.{T, eqb, eqb→eq}
use lib.Ieee.{Float, nan, inf, fin, Format, fits, up, down, is_nan, eq, to_bits}
use lib.Ieee.Fits.{and_l}
use Rattle.ieee754.specs.Operations.{is_sign_minus}
use Rattle.ieee754.proofs.Fields.{one_value}
use Rattle.ieee754.proofs.SmallestUnits.{same_bits}

-- they are numbers: one infinity, or two equal fractions. With one sign they have one pattern, and are one value.
pub equal : (x y : Float) → eq x y ≡ true → T (not (is_nan x)) × T (not (is_nan y)) × ((f : Format) → is_sign_minus x ≡ is_sign_minus y → to_bits f x ≡ to_bits f y)
unfolding eq is_nan is_sign_minus
equal nan y h = absurd (false≢true h)
equal (inf s) nan h = absurd (false≢true h)
equal (inf true) (inf true) h = (tt, tt, λ f p. refl)
equal (inf true) (inf false) h = absurd (false≢true h)
equal (inf false) (inf true) h = absurd (false≢true h)
equal (inf false) (inf false) h = (tt, tt, λ f p. refl)
equal (inf s) (fin t n d) h = absurd (false≢true h)
equal (fin s m e) nan h = absurd (false≢true h)
equal (fin s m e) (inf t) h = absurd (false≢true h)
equal (fin s m e) (fin t n d) h =
    let a = m * up e * down d in
    let b = n * up d * down e in
    let level = eqb→eq a b (and_l (eqb a b) (beq s t || eqb a 0) (subst T (sym h) tt)) in
    (tt, tt, λ f p. rw p (same_bits f t m n e d level))

pub equal_value : (f : Format) (x y : Float) → T (fits f x) → T (fits f y) → eq x y ≡ true → is_sign_minus x ≡ is_sign_minus y → x ≡ y
equal_value f x y F G h p = one_value f x y F G ((equal x y h).2 f p)
