-- What an answer's number shows: which answer it is, whether a call keeps the old value, and which questions were passed.
use mathlib.Core.Path.{◌≡◌, refl, sym, ap, ◌∙◌}
use mathlib.Core.Bool.{Bool, true, false}
use mathlib.Core.List.{[], ◌∷◌}
use Prim.Native.Nat.{ℕ, zero, suc, ◌≤◌, ◌<◌}
use native.Mathlib.Omega.{arith}
use lib.ListN.{get_or}
use lib.Ieee.{Float}
use borrow.Author.Tests.{leb-true, le-leb}
use Rattle.refusal.specs.declared.Refusal.{Refusal}
use Rattle.refusal.specs.declared.Refusal.TheVariants.{SampleRate, BlockLength, Frequency, Accent, Knob}
use Rattle.std.specs.Prelude.{Result, Ok, Err, ⊤}
use Rattle.refusal.specs.declared.Refused.{Refused}
use Rattle.refusal.specs.Refusal.{number, answer_number, call_number, call_voice, unless_refused, ask, is_sample_rate, is_block_length}

-- a refusal's number is not 0, so an answer of number 0 is an accepted one; the highest is 5
refusal_of : ℕ → Refusal
refusal_of n = get_or (SampleRate ∷ SampleRate ∷ BlockLength ∷ Frequency ∷ Accent ∷ Knob ∷ []) n Knob

numbered : (r : Refusal) → (refusal_of (number r) ≡ r) × ((0 < number r) × (number r ≤ 5))
unfolding refusal_of
numbered SampleRate = (refl, omega arith)
numbered BlockLength = (refl, omega arith)
numbered Frequency = (refl, omega arith)
numbered Accent = (refl, omega arith)
numbered Knob = (refl, omega arith)

pub refused : (r : Refusal) → (0 < number r) × (number r ≤ 5)
refused r = (numbered r).1

same_refusal : (r s : Refusal) → number r ≡ number s → r ≡ s
same_refusal r s e = sym (numbered r).0 ∙ ap refusal_of e ∙ (numbered s).0

-- no two answers share a number, so the contracts, which speak of numbers, determine the answer
pub known_by_number : (a b : Result ⊤ Refusal) → answer_number a ≡ answer_number b → a ≡ b
known_by_number (Ok t) (Ok u) e = refl
known_by_number (Ok t) (Err s) e = absurd (omega (arith, (refused s).0))
known_by_number (Err r) (Ok u) e = absurd (omega (arith, (refused r).0))
known_by_number (Err r) (Err s) e = ap Err (same_refusal r s e)

-- nor do two results of a call that hand back the same voice
pub call_known : {V : Type 0} (a b : Result V (Refused V)) → call_number a ≡ call_number b → call_voice a ≡ call_voice b → a ≡ b
call_known (Ok v) (Ok w) e h = ap Ok h
call_known (Ok v) (Err s) e h = absurd (omega (arith, (refused s.refusal).0))
call_known (Err r) (Ok w) e h = absurd (omega (arith, (refused r.refusal).0))
call_known {V} (Err r) (Err s) e h =
    ap (λ (f : Refusal). Err (record { refusal = f; voice = r.voice })) (same_refusal r.refusal s.refusal e)
    ∙ ap (λ (v : V). Err (record { refusal = s.refusal; voice = v })) h

-- what the new value keeps of the old one, the call keeps
pub call_keeps : {A B : Type 0} (f : A → B) (n : ℕ) (new old : A) → f new ≡ f old → f (unless_refused n new old) ≡ f old
call_keeps f zero new old e = e
call_keeps f (suc n) new old e = refl

-- a nest of questions gives 0 exactly where each is passed
pub passed : (q : Bool) (n next : ℕ) → 0 < n → ask q n next ≡ 0 → (q ≡ true) × (next ≡ 0)
passed true n next p h = (refl, h)
passed false n next p h = absurd (omega arith)

-- a shorter block passes where a longer one does
pub shorter : (m n next : ℕ) → m ≤ n → ask (is_block_length n) 2 next ≡ 0 → ask (is_block_length m) 2 next ≡ 0
shorter m n next h e =
    let p = passed (is_block_length n) 2 next (omega arith) e in
    rw (le-leb m 16384 (omega (arith, leb-true n 16384 p.0))) p.1

-- a block shorter than that of an accepted call of a voice that stores its rate
module _ (rate : Float) (size next : ℕ) (h : ask (is_sample_rate rate) 1 (ask (is_block_length size) 2 next) ≡ 0) where
  at_rate : (is_sample_rate rate ≡ true) × (ask (is_block_length size) 2 next ≡ 0)
  at_rate = passed (is_sample_rate rate) 1 (ask (is_block_length size) 2 next) (omega arith) h

  pub shorter_at_rate : (m : ℕ) → m ≤ size → ask (is_sample_rate rate) 1 (ask (is_block_length m) 2 next) ≡ 0
  shorter_at_rate m le = rw at_rate.0 (shorter m size next le at_rate.1)
