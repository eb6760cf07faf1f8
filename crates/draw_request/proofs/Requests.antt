-- The request that a line makes, by its two fields as the code cuts them; an accepted input has a state of 32 bits, a count of at most 1000, and
-- at most 16 bytes.
use Rattle.std.proofs.Common.{◌≡◌, ◌⊎◌, inl, inr, ℕ, suc, ◌+◌, ◌-◌, ◌^◌, ◌≤◌, ◌<◌, Bool, true, false, cond, List, [], ◌∷◌, length, get_or, Option, Some, None, refl, sym, ap, ◌∙◌, arith, length-append, length-take, eqb-true, ne_eqb}
use Rattle.std.specs.List.{join_with_byte}
use Rattle.std.proofs.lemmas.List.Splits.{join_with_byte-slice_split}
use Rattle.text.specs.Read.{ended, body, fields, field, has_fields, decimal}
use Rattle.text.proofs.Lines.{last_field}
use Rattle.text.proofs.Numeral.{decimal_read, decimal-size, plain_decimal}
use Rattle.draw_request.specs.Requests.{both, read_line, read_request}
use Rattle.draw_request.specs.declared.Request.{Request}

no_count : (state : Option ℕ) → both state None ≡ None
unfolding both
no_count (Some s) = refl
no_count None = refl

-- a line whose first field is f, with g after the comma
one_comma : (line f g : List ℕ) → fields line ≡ f ∷ fields g → read_line line ≡ both (decimal 4294967295 f) (decimal 1000 g)
unfolding read_line field
one_comma line f g cut = go (last_field (decimal 1000) (plain_decimal 1000) g)
  where
    go : (fields g ≡ g ∷ []) ⊎ ((decimal 1000 g ≡ None) × (length (fields g) ≡ 1 → ⊥)) → read_line line ≡ both (decimal 4294967295 f) (decimal 1000 g)
    go (inl one) = rw (cut, one)
    go (inr more) = rw (cut, more.0, ne_eqb (suc (length (fields g))) 2 (λ two. more.1 (omega arith))) (sym (no_count (decimal 4294967295 f)))

-- ---- what an input asks for, by what is found about its line
module _ (input : List ℕ) where
  pub no_line : ended input ≡ false → read_request input ≡ None
  unfolding read_request
  no_line e = rw e

  module _ {line : List ℕ} (end : (ended input ≡ true) × (line ≡ body input)) where
    pub one_field : fields line ≡ line ∷ [] → read_request input ≡ None
    unfolding read_request read_line
    one_field one = rw (end.0, ← end.1, one)

    pub two_fields : (f g : List ℕ) → fields line ≡ f ∷ fields g → read_request input ≡ both (decimal 4294967295 f) (decimal 1000 g)
    unfolding read_request
    two_fields f g cut = rw (end.0, ← end.1) (one_comma line f g cut)

-- ---- an accepted input
pub record Accepted (input : List ℕ) (state count : ℕ) : Type 0 where
  pub below : state < 2 ^ 32
  pub most : count ≤ 1000
  pub short : length input ≤ 16

no_request : {C : Type 0} {r : Request} → None ≡ Some r → C
no_request h = let z : ◌≡◌ {A = ℕ} 0 1 = cc in absurd (omega arith)

numbers : (f g : List ℕ) (state count : ℕ) → both (decimal 4294967295 f) (decimal 1000 g) ≡ Some (record { state = state; count = count })
    → (state < 2 ^ 32) × (count ≤ 1000) × (length f ≤ 10) × (length g ≤ 4)
unfolding both
numbers f g state count h = go (decimal 4294967295 f) (decimal 1000 g) refl refl h
  where
    go : (x y : Option ℕ) → decimal 4294967295 f ≡ x → decimal 1000 g ≡ y → both x y ≡ Some (record { state = state; count = count })
        → (state < 2 ^ 32) × (count ≤ 1000) × (length f ≤ 10) × (length g ≤ 4)
    go (Some s) (Some n) ex ey h =
        let same : ◌≡◌ {A = Request} (record { state = s; count = n }) (record { state = state; count = count }) = cc in
        let s-is : s ≡ state = ap (λ (r : Request). r.state) same in
        let n_is : n ≡ count = ap (λ (r : Request). r.count) same in
        let below = (decimal_read 4294967295 s f ex).most in
        let most = (decimal_read 1000 n g ey).most in
        (omega arith, omega arith, decimal-size 9 4294967295 s f (omega arith) ex, decimal-size 3 1000 n g (omega arith) ey)
    go (Some s) None ex ey h = no_request h
    go None y ex ey h = no_request h

-- two fields are a comma shorter than their line
two_long : (line : List ℕ) → length (fields line) ≡ 2 → length line ≡ length (field 0 line) + suc (length (field 1 line))
unfolding fields field
two_long line two = go (fields line) two (join_with_byte-slice_split 44 line)
  where
    go : (fs : List (List ℕ)) → length fs ≡ 2 → join_with_byte 44 fs ≡ line → length line ≡ length (get_or fs 0 []) + suc (length (get_or fs 1 []))
    go [] two e = absurd (omega arith)
    go (f ∷ []) two e = absurd (omega arith)
    go (f ∷ g ∷ []) two e = ap length (sym e) ∙ length-append f (44 ∷ g)
    go (f ∷ g ∷ h ∷ fs) two e = absurd (omega arith)

pub accepted : (input : List ℕ) (state count : ℕ) → read_request input ≡ Some (record { state = state; count = count }) → Accepted input state count
unfolding read_request read_line body
accepted input state count h = go (ended input) (has_fields 2 line) refl h
  where
    line : List ℕ
    line = body input

    go : (t u : Bool) → has_fields 2 line ≡ u
        → cond t (cond u (both (decimal 4294967295 (field 0 line)) (decimal 1000 (field 1 line))) None) None ≡ Some (record { state = state; count = count }) → Accepted input state count
    go true true two h =
        let r = numbers (field 0 line) (field 1 line) state count h in
        record { below = r.0; most = r.1; short = omega (arith, r.2, r.3, two_long line (eqb-true _ 2 two), length-take (length input - 1) input) }
    go true false two h = no_request h
    go false u two h = no_request h

-- the first 17 bytes of an input say as much as all of it
pub long_refused : (input : List ℕ) → 16 < length input → read_request input ≡ None
long_refused input h = go (read_request input) refl
  where
    go : (q : Option Request) → read_request input ≡ q → q ≡ None
    go (Some r) e = absurd (omega (arith, (accepted input r.state r.count e).short))
    go None e = refl
