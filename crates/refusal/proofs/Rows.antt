-- Runs that go on from one another over two buffers do so over a row of them; and a row over any buffers is the row over single samples, so that it does not
-- matter how they were cut.
use Prim.Native.Nat.{ℕ, zero, suc}
use native.Mathlib.Omega.{arith}
use mathlib.Core.Path.{◌≡◌, refl, sym, ap, ◌∙◌}
use mathlib.Core.List.{List, [], ◌∷◌, ◌++◌, map, flatten, append-nil, append_assoc, map-append}
use lib.Ieee.{Float}
use Rattle.refusal.specs.Refusal.{Call, unless_refused}
use Rattle.refusal.specs.Rows.{both, row, InTwo, InRows}

-- ---- two calls that are accepted as one are accepted, and three are one in either way
pub accepted : (m n : ℕ) → unless_refused m n m ≡ 0 → (m ≡ 0) × (n ≡ 0)
accepted zero n h = (refl, h)
accepted (suc m) n h = absurd (omega arith)

numbers_assoc : (m n o : ℕ) → unless_refused (unless_refused m n m) o (unless_refused m n m) ≡ unless_refused m (unless_refused n o n) m
numbers_assoc zero n o = refl
numbers_assoc (suc m) n o = refl

both_assoc : {State : Type 0} (x y z : Call State) → both (both x y) z ≡ both x (both y z)
both_assoc x y z = rw (numbers_assoc x.number y.number z.number, append_assoc)

-- ---- a buffer cut into single samples
abbrev singles : List Float → List (List Float)
singles xs = map (λ (x : Float). x ∷ []) xs

flatten_singles : (xs : List Float) → flatten (singles xs) ≡ xs
unfolding flatten
flatten_singles [] = refl
flatten_singles (x ∷ xs) = ap (λ (l : List Float). x ∷ l) (flatten_singles xs)

module _ {State : Type 0} (run : State → List Float → Call State) where
  -- ---- a row begun with two calls, and a row after a row
  row-both : (x y : Call State) (outs : List (List Float)) → row run (both x y) outs ≡ both x (row run y outs)
  unfolding row
  row-both x y [] = refl
  row-both x y (out ∷ outs) = both_assoc x y _

  row-append : (x : Call State) (outs outs' : List (List Float)) → row run (row run x outs) outs' ≡ row run x (outs ++ outs')
  unfolding row
  row-append x [] outs' = refl
  row-append x (out ∷ outs) outs' = row-both x _ outs' ∙ ap (both x) (row-append (run x.state out) outs outs')

  module _ (two : InTwo run) where
    -- ---- a run in any number of parts
    whole : (s : State) (a : List Float) (outs : List (List Float)) → (run s (a ++ flatten outs)).number ≡ 0 → run s (a ++ flatten outs) ≡ row run (run s a) outs
    unfolding flatten row
    whole s a [] h = ap (run s) (append-nil a)
    whole s a (out ∷ outs) h =
        let cut = two s a (out ++ flatten outs) h in
        let left = (run s a).state in
        let second = (accepted (run s a).number _ (sym (ap (λ (c : Call State). c.number) cut) ∙ h)).1 in
        cut ∙ ap (both (run s a)) (whole left out outs second)

    -- ---- every row is the row of single samples
    run_finest : (s : State) (a : List Float) → (run s a).number ≡ 0 → run s a ≡ row run (run s []) (singles a)
    run_finest s a h = rw flatten_singles at (whole s [] (singles a) (rw flatten_singles h))

    finest : (s : State) (a : List Float) (outs : List (List Float))
        → (row run (run s a) outs).number ≡ 0 → row run (run s a) outs ≡ row run (run s []) (singles (a ++ flatten outs))
    unfolding flatten row
    finest s a [] h = rw append-nil (run_finest s a h)
    finest s a (out ∷ outs) h =
        let left = (run s a).state in
        let xs = out ++ flatten outs in
        let both-accepted = accepted (run s a).number (row run (run left out) outs).number h in
        -- an empty block after the first changes nothing
        let empty : run s a ≡ both (run s a) (run left []) = rw append-nil at (two s a [] (rw append-nil both-accepted.0)) in
        ap (both (run s a)) (finest left out outs both-accepted.1)
        ∙ sym (row-both (run s a) (run left []) (singles xs))
        ∙ ap (λ (c : Call State). row run c (singles xs)) (sym empty ∙ run_finest s a both-accepted.0)
        ∙ row-append (run s []) (singles a) (singles xs)
        ∙ ap (row run (run s [])) (sym (map-append (λ (x : Float). x ∷ []) a xs))

    pub in_rows : InRows run
    in_rows = record {
      whole = whole;
      cuts = λ s a a' outs outs' e h h'. finest s a outs h ∙ ap (λ (l : List Float). row run (run s []) (singles l)) e ∙ sym (finest s a' outs' h');
    }
