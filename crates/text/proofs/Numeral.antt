-- Reading a number digit by digit, up to a limit; how large it is, how many digits it can have, and that no comma is among them.
use Rattle.std.proofs.Common.{◌≡◌, ℕ, suc, ◌+◌, ◌*◌, ◌^◌, ◌≤◌, ◌<◌, Bool, true, false, not, cond, eqb, ltb, leb, List, [], ◌∷◌, get_or, length, drop, Option, Some, None, option_and_then, refl, sym, ap, ◌∙◌, add-one, arith, drop-cons, drop_of_length-le, lt-ltb, le-ltb, le-leb, ne_eqb, ltb-true, leb-true, eqb-true}
use native.Mathlib.Nat.{le-mul_of_pos_right, mul-le-mul, mul-le-mul_right, mul-one, mul_assoc, suc-mul, pow-zero, pow-succ', pow-le-pow_right, one-le-pow}
use native.Mathlib.Decide.{dec_le}
use borrow.Author.Tests.{lt-leb, eqb-false, not-true}
use Rattle.std.specs.List.{onto_first}
use Rattle.std.proofs.lemmas.List.Quantifiers.{position-Some}
use Rattle.text.specs.Read.{fields, digits, digit, numeral, up_to, well_formed, decimal, pattern}

-- ---- a decimal's form, by its length and its first byte
pub short_form : (text : List ℕ) → length text < 2 → well_formed text ≡ ltb 0 (length text)
unfolding well_formed
short_form [] h = refl
short_form (d ∷ []) h = refl
short_form (d ∷ e ∷ ds) h = absurd (omega arith)

pub long_form : (text : List ℕ) → 2 ≤ length text → well_formed text ≡ not (eqb (get_or text 0 0) 48)
unfolding well_formed
long_form [] h = absurd (omega arith)
long_form (d ∷ []) h = absurd (omega arith)
long_form (d ∷ e ∷ ds) h = refl

-- ---- a number that is read
no_value : {C : Type 0} {n : ℕ} → None ≡ Some n → C
no_value h = let z : ◌≡◌ {A = ℕ} 0 1 = cc in absurd (omega arith)

record OneRead (base m n d : ℕ) (ds : List ℕ) : Type 0 where
  value : ℕ
  is : digit d ≡ Some value
  below : value < base
  rest : numeral base (m * base + value) ds ≡ Some n

one_read : (base m n d : ℕ) (ds : List ℕ) → numeral base m (d ∷ ds) ≡ Some n → OneRead base m n d ds
unfolding numeral
one_read base m n d ds h = go (digit d) refl h
  where
    next : ℕ → Option ℕ
    next k = cond (ltb k base) (numeral base (m * base + k) ds) None

    small : (k : ℕ) (t : Bool) → digit d ≡ Some k → ltb k base ≡ t → cond t (numeral base (m * base + k) ds) None ≡ Some n → OneRead base m n d ds
    small k true e l h = record { value = k; is = e; below = ltb-true k base l; rest = h }
    small k false e l h = no_value h

    go : (x : Option ℕ) → digit d ≡ x → option_and_then next x ≡ Some n → OneRead base m n d ds
    go (Some k) e h = small k (ltb k base) e refl h
    go None e h = no_value h

-- the digit 0 alone stands for 0, and a comma is no digit
zero_digit : (d : ℕ) → digit d ≡ Some 0 → d ≡ 48
unfolding digit
zero_digit d e = sym (eqb-true 48 d (position-Some (λ x. eqb x d) digits 0 0 e).1)

comma : digit 44 ≡ None
unfolding digit
comma = refl

no_comma : (base m n : ℕ) (ds : List ℕ) → numeral base m ds ≡ Some n → fields ds ≡ ds ∷ []
unfolding fields
no_comma base m n [] h = refl
no_comma base m n (d ∷ ds) h =
    let r = one_read base m n d ds h in
    let other : d ≡ 44 → ⊥ = λ e. no_value (sym comma ∙ (ap digit (sym e) ∙ r.is)) in
    rw (ne_eqb d 44 other) (ap (onto_first d) (no_comma base (m * base + r.value) n ds r.rest))

-- it lies from m with zeros after it up to m + 1 with zeros after it
bounds : (base m n : ℕ) (ds : List ℕ) → numeral base m ds ≡ Some n → (m * base ^ length ds ≤ n) × (n < suc m * base ^ length ds)
unfolding numeral
bounds base m n [] h = let e : m ≡ n = cc in rw (pow-zero, mul-one, mul-one) (omega arith, omega arith)
bounds base m n (d ∷ ds) h =
    let r = one_read base m n d ds h in
    let b = bounds base (m * base + r.value) n ds r.rest in
    let power = base ^ length ds in
    let low : m * base * power ≤ (m * base + r.value) * power = mul-le-mul_right power (omega arith) in
    let high : suc (m * base + r.value) * power ≤ suc m * base * power = mul-le-mul_right power (rw suc-mul (omega arith)) in
    rw (pow-succ', ← mul_assoc, ← mul_assoc) (omega arith, omega arith)

-- digits make no number less: one above the limit stays above it
above : (base limit n : ℕ) (ds : List ℕ) → 0 < base → limit < n → up_to limit (numeral base n ds) ≡ None
unfolding up_to
above base limit n ds p h = go (numeral base n ds) refl
  where
    go : (x : Option ℕ) → numeral base n ds ≡ x → up_to limit x ≡ None
    go (Some v) e = rw (lt-leb v limit (omega (arith, (bounds base n v ds e).0, le-mul_of_pos_right n (one-le-pow (length ds) base p))))
    go None e = refl

-- ---- a loop that reads: the digits before place i stand for n, and those from i on are read on from it
pub record Reading (base limit : ℕ) (text : List ℕ) (n i : ℕ) : Type 0 where
  pub within : n ≤ limit
  pub left : numeral base 0 text ≡ numeral base n (drop i text)

module _ {base limit : ℕ} {text : List ℕ} {n i : ℕ} (g : Reading base limit text n i) where
  pub end : length text ≤ i → Some n ≡ up_to limit (numeral base 0 text)
  unfolding numeral up_to
  end h = sym (rw (g.left, drop_of_length-le text {i = i} h, le-leb n limit g.within))

  -- one digit of a base up to 16 more, and the number still fits 64 bits
  pub room : limit < 2 ^ 32 → base ≤ 16 → n * base ≤ 2 ^ 36
  room h b = mul-le-mul {n₁ = n} {m₁ = base} {n₂ = 2 ^ 32} {m₂ = 16} (omega (arith, g.within)) b

  module _ (h : i < length text) where
    pub no_digit : None ≡ digit (get_or text i 0) → None ≡ up_to limit (numeral base 0 text)
    unfolding numeral up_to
    no_digit e = rw (g.left, drop-cons text i 0 h, ← e)

    module _ {d : ℕ} (here : Some d ≡ digit (get_or text i 0)) where
      opened : numeral base 0 text ≡ cond (ltb d base) (numeral base (n * base + d) (drop (i + 1) text)) None
      unfolding numeral
      opened = g.left ∙ rw (drop-cons text i 0 h, ← here, add-one i)

      pub too_high : base ≤ d → None ≡ up_to limit (numeral base 0 text)
      unfolding up_to
      too_high l = rw (opened, le-ltb d base l)

      pub too_large : 0 < base → d < base → limit < n * base + d → None ≡ up_to limit (numeral base 0 text)
      too_large p l over = sym (rw (opened, lt-ltb d base l) (above base limit (n * base + d) (drop (i + 1) text) p over))

      pub turn : d < base → n * base + d ≤ limit → Reading base limit text (n * base + d) (i + 1)
      turn l k = record { within = k; left = opened ∙ rw (lt-ltb d base l) }

-- eight hexadecimal digits stand for less than 2 ^ 32
pub eight_digits : (text : List ℕ) {x : Option ℕ} → length text ≡ 8 → x ≡ up_to 4294967295 (numeral 16 0 text) → x ≡ numeral 16 0 text
unfolding up_to
eight_digits text eight read = read ∙ go (numeral 16 0 text) refl
  where
    go : (x : Option ℕ) → numeral 16 0 text ≡ x → up_to 4294967295 x ≡ x
    go (Some n) e = rw (le-leb n 4294967295 (omega (arith, rw eight at (bounds 16 0 n text e).1)))
    go None e = refl

-- a decimal that is read: its form, its digits and its limit
pub record DecimalRead (limit n : ℕ) (text : List ℕ) : Type 0 where
  pub form : well_formed text ≡ true
  pub digits : numeral 10 0 text ≡ Some n
  pub most : n ≤ limit

pub decimal_read : (limit n : ℕ) (text : List ℕ) → decimal limit text ≡ Some n → DecimalRead limit n text
unfolding decimal up_to
decimal_read limit n text h = go (well_formed text) (numeral 10 0 text) refl refl h
  where
    up : (t : Bool) (m : ℕ) → leb m limit ≡ t → well_formed text ≡ true → numeral 10 0 text ≡ Some m → cond t (Some m) None ≡ Some n
        → DecimalRead limit n text
    up true m e w x h = let same : m ≡ n = cc in record { form = w; digits = x ∙ h; most = omega (arith, leb-true m limit e) }
    up false m e w x h = no_value h

    go : (t : Bool) (x : Option ℕ) → well_formed text ≡ t → numeral 10 0 text ≡ x → cond t (up_to limit x) None ≡ Some n → DecimalRead limit n text
    go true (Some m) w x h = up (leb m limit) m refl w x h
    go true None w x h = no_value h
    go false x w e h = no_value h

-- a decimal up to a limit below 10^(k + 1) has at most k + 1 digits
pub decimal-size : (k limit n : ℕ) (text : List ℕ) → limit < 10 ^ suc k → decimal limit text ≡ Some n → length text ≤ suc k
unfolding well_formed
decimal-size k limit n text h e = go text (decimal_read limit n text e)
  where
    go : (text : List ℕ) → DecimalRead limit n text → length text ≤ suc k
    go [] r = omega arith
    go (d ∷ []) r = omega arith
    go (d ∷ c ∷ ds) r = few (dec_le (suc k) (length (c ∷ ds)))
      where
        few : Dec (suc k ≤ length (c ∷ ds)) → length (d ∷ c ∷ ds) ≤ suc k
        few (no l) = omega arith
        few (yes l) =
            let power = 10 ^ length (c ∷ ds) in
            let lead = one_read 10 0 n d (c ∷ ds) r.digits in
            let low = (bounds 10 (0 * 10 + lead.value) n (c ∷ ds) lead.rest).0 in
            let other = eqb-false d 48 (not-true (eqb d 48) r.form) in
            let some : lead.value ≡ 0 → ⊥ = λ e. other (zero_digit d (rw e at lead.is)) in
            let leads : 1 * power ≤ (0 * 10 + lead.value) * power = mul-le-mul_right power (omega (arith, some)) in
            absurd (omega (arith, r.most, pow-le-pow_right {n = 10} (omega arith) l))

-- no comma is in a number
pub plain_decimal : (limit : ℕ) (text : List ℕ) (n : ℕ) → decimal limit text ≡ Some n → fields text ≡ text ∷ []
plain_decimal limit text n h = no_comma 10 0 n text (decimal_read limit n text h).digits

pub plain_pattern : (text : List ℕ) (n : ℕ) → pattern text ≡ Some n → fields text ≡ text ∷ []
unfolding pattern
plain_pattern text n h = go (eqb (length text) 8) h
  where
    go : (t : Bool) → cond t (numeral 16 0 text) None ≡ Some n → fields text ≡ text ∷ []
    go true h = no_comma 16 0 n text h
    go false h = no_value h
