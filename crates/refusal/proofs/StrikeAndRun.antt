-- A strike and a run ask together what a triggered `render` asks: the questions of a call that is accepted, asked in two. And the last of two strikes counts.
use mathlib.Core.Path.{◌≡◌, refl}
use mathlib.Core.Bool.{Bool, true}
use mathlib.Core.List.{[]}
use Prim.Native.Nat.{ℕ, zero, suc}
use native.Mathlib.Omega.{arith}
use lib.Ieee.{binary32, round, of_bits, le}
use Rattle.refusal.specs.Refusal.{call, unless_refused, ask, is_unit, within}
use Rattle.refusal.specs.StrikeAndRun.{LastCounts}
use Rattle.refusal.proofs.ByNumber.{passed}

-- ---- a voice whose strike alone asks accent; n is what its other knobs give
pub asked_in_two : (size frequency accent : Bool) (n : ℕ)
    → let whole = ask size 2 (ask frequency 3 (ask accent 4 n)) in
    let parts = (ask accent 4 0 ≡ 0) × (ask size 2 (ask frequency 3 n) ≡ 0) in
    (whole ≡ 0 → parts) × (parts → whole ≡ 0)
asked_in_two size frequency accent n = (apart, λ h. rw (passed accent 4 0 (omega arith) h.0).0 h.1)
  where
    apart : ask size 2 (ask frequency 3 (ask accent 4 n)) ≡ 0 → (ask accent 4 0 ≡ 0) × (ask size 2 (ask frequency 3 n) ≡ 0)
    apart h =
        let sized = passed size 2 _ (omega arith) h in
        let tuned = passed frequency 3 _ (omega arith) sized.1 in
        let struck = passed accent 4 n (omega arith) tuned.1 in
        rw (sized.0, tuned.0, struck.0) (refl, struck.1)

-- an accent of 0.0 passes its question
pub no_accent : is_unit (of_bits binary32 0) ≡ true
unfolding is_unit within round of_bits le
no_accent = refl

-- ---- a voice whose run asks all that its strike asks, and whose decay is the second of its other knobs
pub asked_again : (rate size frequency accent first decay : Bool) (n : ℕ)
    → ask rate 1 (ask size 2 (ask frequency 3 (ask accent 4 (ask first 5 (ask decay 5 n))))) ≡ 0 → ask rate 1 (ask accent 4 (ask decay 5 0)) ≡ 0
asked_again rate size frequency accent first decay n h =
    let rated = passed rate 1 _ (omega arith) h in
    let sized = passed size 2 _ (omega arith) rated.1 in
    let tuned = passed frequency 3 _ (omega arith) sized.1 in
    let struck = passed accent 4 _ (omega arith) tuned.1 in
    let other = passed first 5 _ (omega arith) struck.1 in
    rw (rated.0, struck.0, (passed decay 5 n (omega arith) other.1).0)

-- ---- a strike that asks nothing that a strike changes, and writes over all that a strike wrote
pub last_counts : {State A : Type 0} (number : State → A → ℕ) (struck : State → A → State)
    → ((v : State) (first last : A) → number (struck v first) last ≡ number v last)
    → ((v : State) (first last : A) → struck (struck v first) last ≡ struck v last)
    → LastCounts (λ v taken. call (number v taken) (struck v taken) [] v [])
last_counts number struck asks writes v first last h = go (number v first)
  where
    go : (n : ℕ)
        → let w = unless_refused n (struck v first) v in
        call (number w last) (struck w last) [] w [] ≡ call (number v last) (struck v last) [] v []
    go zero = rw (asks v first last, h, writes v first last)
    go (suc n) = refl
