-- The first line of a text, with its line end, and those after it; and the first field of a line, cut at its first comma.
use Rattle.std.proofs.Common.{◌≡◌, ◌⊎◌, inl, inr, ℕ, zero, suc, ◌+◌, ◌-◌, ◌<◌, ◌≤◌, Bool, true, false, not, cond, eqb, ltb, List, [], ◌∷◌, get_or, length, take, drop, Option, Some, None, position, refl, sym, ap, ◌∙◌, arith, add-one, ltb-true, ltb-false, lt-ltb, le-ltb, eqb-true, length-take, length-take-le, length-drop}
use Rattle.std.specs.List.{position_or_len, slice_split, onto_first}
use Rattle.std.proofs.lemmas.List.Splits.{slice_split_first, slice_split_none, length-slice_split}
use Rattle.std.proofs.lemmas.List.Sums.{fails_before_first, position_or_len_is}
use Rattle.std.proofs.lemmas.Option.{cond_some}
use lib.Seq.{take_all}
use borrow.Author.Tests.{eqb-false}
use Rattle.text.specs.Read.{lines, first_line, fields}

abbrev end_at : List ℕ → ℕ
end_at l = position_or_len (λ x. eqb x 10) l

-- the first line end closes the first line; where there is none, that is all of the text
opened : (l : List ℕ) → 0 < length l → lines l ≡ take (suc (end_at l)) l ∷ lines (drop (suc (end_at l)) l)
unfolding lines
opened [] h = absurd (omega arith)
opened (x ∷ xs) h = go (eqb x 10) xs (opened xs)
  where
    go : (t : Bool) (xs : List ℕ) → (0 < length xs → lines xs ≡ take (suc (end_at xs)) xs ∷ lines (drop (suc (end_at xs)) xs))
        → cond t ((x ∷ []) ∷ lines xs) (onto_first x (lines xs))
        ≡ take (suc (cond (not t) (1 + end_at xs) 0)) (x ∷ xs) ∷ lines (drop (suc (cond (not t) (1 + end_at xs) 0)) (x ∷ xs))
    go true xs e = refl
    go false [] e = refl
    go false (y ∷ ys) e = let one : 1 + end_at (y ∷ ys) ≡ suc (end_at (y ∷ ys)) = omega arith in rw one (ap (onto_first x) (e (omega arith)))

-- ---- the place of a byte that is there, and of one that is not
module _ (p : ℕ → Bool) (l : List ℕ) where
  place_of : {k : ℕ} → Some k ≡ position p l → (position_or_len p l ≡ k) × (k < length l)
  place_of {k} e = let f = cond_some (ltb (position_or_len p l) (length l)) (position_or_len p l) k (sym e) in (f.1, rw f.1 at (ltb-true _ _ f.0))

  no_place : None ≡ position p l → length l ≤ position_or_len p l
  no_place e = go (ltb (position_or_len p l) (length l)) refl e
    where
      go : (t : Bool) → ltb (position_or_len p l) (length l) ≡ t → None ≡ cond t (Some (position_or_len p l)) None → length l ≤ position_or_len p l
      go true h e = let z : ◌≡◌ {A = ℕ} 0 1 = cc in absurd (omega arith)
      go false h e = ltb-false _ _ h

  -- where no byte passes, its place is the end
  pub place_none : None ≡ position p l → position_or_len p l ≡ length l
  place_none e = position_or_len_is p l (length l) 0 (omega arith) (λ k h. fails_before_first p l k 0 (omega (arith, no_place e))) (λ h. absurd (omega arith))

-- the same, as a loop finds it that has passed by what lies before place i
module _ (p : ℕ → Bool) (l : List ℕ) (i : ℕ) (before : (k : ℕ) → k < i → p (get_or l k 0) ≡ false) where
  pub found_at : i < length l → p (get_or l i 0) ≡ true → Some i ≡ position p l
  found_at inside here = rw (position_or_len_is p l i 0 (omega arith) before (λ h. here), lt-ltb i (length l) inside)

  pub found_nowhere : length l ≤ i → None ≡ position p l
  found_nowhere over =
      let none = position_or_len_is p l (length l) 0 (omega arith) (λ k h. before k (omega arith)) (λ h. absurd (omega arith)) in
      rw (none, le-ltb (length l) (length l) (omega arith))

-- what comes after the first k
after : (k : ℕ) (l : List ℕ) → drop (length (take k l)) l ≡ drop k l
after zero l = refl
after (suc k) [] = refl
after (suc k) (x ∷ l) = after k l

-- what is left from a place on, as the code cuts it
pub left : (at : ℕ) (l : List ℕ) → take (length l - at) (drop at l) ≡ drop at l
left at l = take_all (length l - at) (drop at l) (omega (arith, length-drop at l))

-- ---- the first line, and what comes after it
module _ (text : List ℕ) where
  pub line_found : {end : ℕ} → Some end ≡ position (λ x. eqb x 10) text → (take (end + 1) text ≡ first_line text) × (end + 1 ≡ length (first_line text))
  unfolding first_line
  line_found {end} e =
      let f = place_of (λ x. eqb x 10) text e in
      rw (opened text (omega (arith, f.1)), f.0, add-one end) (refl, sym (length-take-le (suc end) text (omega (arith, f.1))))

  pub line_none : None ≡ position (λ x. eqb x 10) text → text ≡ first_line text
  unfolding first_line lines
  line_none e = sym (go text (no_place (λ x. eqb x 10) text e))
    where
      go : (l : List ℕ) → length l ≤ end_at l → first_line l ≡ l
      go [] h = refl
      go (x ∷ xs) h = rw (opened (x ∷ xs) (omega arith)) (take_all (suc (end_at (x ∷ xs))) (x ∷ xs) (omega (arith, h)))

  pub line_next : 0 < length text → (0 < length (first_line text)) × (lines text ≡ first_line text ∷ lines (drop (length (first_line text)) text))
  unfolding first_line
  line_next some = rw (opened text some) (simp length-take (omega arith), rw after)

-- ---- the first field, and those after it
module _ (line : List ℕ) where
  pub field_found : {comma : ℕ} → Some comma ≡ position (λ x. eqb x 44) line → fields line ≡ take comma line ∷ fields (take (length line - (comma + 1)) (drop (comma + 1) line))
  unfolding fields
  field_found {comma} e =
      let f = place_of (λ x. eqb x 44) line e in
      slice_split_first (λ x. eqb x 44) line 0 (omega (arith, f.0, f.1)) ∙ rw (f.0, take_all (length line - (comma + 1)) (drop (comma + 1) line) (omega (arith, length-drop (comma + 1) line)))

  pub field_none : None ≡ position (λ x. eqb x 44) line → fields line ≡ line ∷ []
  unfolding fields
  field_none e = slice_split_none (λ x. eqb x 44) line (λ k d h. fails_before_first (λ x. eqb x 44) line k d (omega (arith, no_place (λ x. eqb x 44) line e)))

-- ---- the last field of a line, read by `read`, which takes no comma: what it reads is all that is left, or it reads nothing
one_field : (line : List ℕ) → length (fields line) ≡ 1 → fields line ≡ line ∷ []
unfolding fields
one_field [] h = refl
one_field (x ∷ xs) h = go (eqb x 44) (slice_split (λ b. eqb b 44) xs) _ (length-slice_split (λ b. eqb b 44) xs) h (one_field xs)
  where
    go : (t : Bool) (fs : List (List ℕ)) (n : ℕ) → length fs ≡ n + 1 → length (cond t ([] ∷ fs) (onto_first x fs)) ≡ 1 → (length fs ≡ 1 → fs ≡ xs ∷ [])
        → cond t ([] ∷ fs) (onto_first x fs) ≡ (x ∷ xs) ∷ []
    go true fs n some h ih = absurd (omega arith)
    go false [] n some h ih = absurd (omega arith)
    go false (f ∷ fs) n some h ih = ap (onto_first x) (ih h)

module _ {A : Type 0} (read : List ℕ → Option A) (plain : (t : List ℕ) (x : A) → read t ≡ Some x → fields t ≡ t ∷ []) where
  pub last_field : (line : List ℕ) → (fields line ≡ line ∷ []) ⊎ ((read line ≡ None) × (length (fields line) ≡ 1 → ⊥))
  last_field line = go (read line) (eqb (length (fields line)) 1) refl refl
    where
      go : (o : Option A) (one : Bool) → read line ≡ o → eqb (length (fields line)) 1 ≡ one
          → (fields line ≡ line ∷ []) ⊎ ((read line ≡ None) × (length (fields line) ≡ 1 → ⊥))
      go o true e h = inl (one_field line (eqb-true _ 1 h))
      go (Some x) false e h = inl (plain line x e)
      go None false e h = inr (e, eqb-false _ 1 h)
