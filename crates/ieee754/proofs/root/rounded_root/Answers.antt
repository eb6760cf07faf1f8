-- The radicand has 47 or 48 digits, so its root has 24; the laws of `Cut` round it.
use mathlib.Core.Path.{◌≡◌, sym, ap, ◌∙◌}
use Prim.Native.Nat.{ℕ, ◌+◌, ◌*◌, ◌/◌, ◌%◌, ◌^◌, ◌≤◌, ◌<◌}
use native.Mathlib.Nat.{mod-eq_of_lt, lt_of_lt_of_le, le_of_suc-le-suc, le-add_right, mul-le-mul}
use native.Mathlib.Numerals.{add-one}
use native.Mathlib.Omega.{arith}
use lib.Dec.{lit≤}
use lib.Pow.{pow-add, pow_mono, shl_lt}
use lib.Ieee.{binary32}
use Rattle.ieee754.proofs.Numbers.{sq_lt_back, pow_swap}
use Rattle.ieee754.proofs.root.Cut.{rounds_down, rounds_up}
use Rattle.ieee754.proofs.root.rounded_root.Goals as goal

regroup : (a x y d p z u : ℕ) → a * x ≡ d * p → p * y ≡ z * u → a * (x * y) ≡ d * z * u
regroup a x y d p z u h g = omega (arith, ap (λ (k : ℕ). k * y) h, ap (λ (k : ℕ). d * k) g)

-- the radicand
module _ (w digits : ℕ) (small : digits < 2 ^ 24) (large : 2 ^ 23 ≤ digits) where
  abbrev rad : ℕ
  rad = digits * 2 ^ (23 + w % 2)

  rad_lt : rad < 2 ^ 48
  rad_lt = lt_of_lt_of_le (shl_lt 24 (23 + w % 2) small) (pow_mono {i = 24 + (23 + w % 2)} {j = 48} (omega arith))

  rad_ge : 2 ^ 46 ≤ rad
  rad_ge = mul-le-mul large (pow_mono {i = 23} {j = 23 + w % 2} (le-add_right 23 (w % 2)))

  whole : rad % 2 ^ 64 ≡ rad
  whole = mod-eq_of_lt (lt_of_lt_of_le rad_lt (lit≤ tt))

  -- a units are the radicand times a square
  scaled : (a : ℕ) → a * 2 ^ 126 ≡ digits * 2 ^ w → a * 2 ^ 149 ≡ rad * (2 ^ (w / 2) * 2 ^ (w / 2))
  scaled a e =
      let h = w / 2 in
      let places = pow_swap w 23 (23 + w % 2) (h + h) (omega arith) in
      regroup a (2 ^ 126) (2 ^ 23) digits (2 ^ w) (2 ^ (23 + w % 2)) (2 ^ h * 2 ^ h) e (rw (pow-add 2 h h) at places)

  -- its root, and what the square of the root leaves
  record Extracted (root rest : ℕ) : Type 0 where
    lt : root < 2 ^ 24
    ge : 2 ^ 23 ≤ root
    near : rest ≤ 2 * root
    squared : (a : ℕ) → a * 2 ^ 126 ≡ digits * 2 ^ w → a * 2 ^ 149 ≡ (root * root + rest) * (2 ^ (w / 2) * 2 ^ (w / 2))

  extracted : {root rest : ℕ} → root * root + rest ≡ rad % 2 ^ 64 → rest ≤ 2 * root → Extracted root rest
  extracted {root} {rest} square near =
      let is : root * root + rest ≡ rad = square ∙ whole in
      record {
        lt = sq_lt_back {b = 2 ^ 24} (omega (arith, rad_lt));
        ge = le_of_suc-le-suc (sq_lt_back {a = 2 ^ 23} (omega (arith, rad_ge)));
        near = near;
        squared = λ a h. rw is (scaled a h);
      }

pub extract_root-root-requires : goal.extract_root-root-requires
extract_root-root-requires c = let r = c.requires in rw (whole _ _ r.few r.full) (rad_lt _ _ r.few r.full)

pub packed-requires : goal.packed-requires
packed-requires c = let r = c.requires in let e = c.extract_root-root.ensures in omega (arith, extracted c.args.place _ r.few r.full e.square e.below_next)

pub packed-requires-else-rest-root : goal.packed-requires-else-rest-root
packed-requires-else-rest-root c = let r = c.requires in let e = c.extract_root-root.ensures in omega (arith, extracted c.args.place _ r.few r.full e.square e.below_next)

pub returns-then-rest-root : goal.returns-then-rest-root
returns-then-rest-root c a h =
    let r = c.requires in
    let e = c.extract_root-root.ensures in
    let x = extracted c.args.place _ r.few r.full e.square e.below_next in
    rw c.packed.ensures (sym (rounds_down binary32 a _ _ _ (x.squared a h) x.near x.ge x.lt c.if-rest-root.true))

pub returns-else-rest-root : goal.returns-else-rest-root
returns-else-rest-root c a h =
    let r = c.requires in
    let e = c.extract_root-root.ensures in
    let x = extracted c.args.place _ r.few r.full e.square e.below_next in
    rw (c.packed-else-rest-root.ensures, add-one) (sym (rounds_up binary32 a _ _ _ (x.squared a h) x.near x.ge x.lt c.if-rest-root.false))
