-- What a + b samples are fed is what the first a are, and then what the others are by what is left of n. The rest is `block`'s law of a stage, and that a shorter
-- block passes the same question.
use Prim.Native.Nat.{ℕ, ◌+◌, ◌-◌, ◌≤◌, ◌<◌, min}
use native.Mathlib.Omega.{arith}
use mathlib.Core.Path.{◌≡◌}
use mathlib.Core.Logic.{◌⊎◌, inl, inr}
use mathlib.Core.List.{List, ◌++◌, append_assoc, append-nil}
use lib.ListN.{length, length-append, replicate-append-replicate}
use lib.Ieee.{Float}
use Rattle.std.proofs.lemmas.Bool.{cases_lt}
use Rattle.block.proofs.Blocks.{scan-append, scanned-append}
use Rattle.refusal.specs.Rows.{InRows}
use Rattle.refusal.specs.Refusal.{ask, is_block_length}
use Rattle.refusal.proofs.ByNumber.{shorter}
use Rattle.refusal.proofs.Rows.{in_rows}
use Rattle.synthetic_bass_drum.specs.Transient.{fed}
use Rattle.synthetic_bass_drum.specs.AnyBlockLength.{counted, AnyBlockLength}

module _ (n a b : ℕ) where
  -- the first a samples use up n, or do not
  cut : (n < a) ⊎ (a ≤ n) → fed n (a + b) ≡ fed n a ++ fed (n - a) b
  unfolding fed
  cut (inl h) =
      let whole : min n (a + b) ≡ n = omega (arith, h) in
      let first : min n a ≡ n = omega (arith, h) in
      let second : min (n - a) b ≡ 0 = omega (arith, h) in
      let ones : a + b - n ≡ (a - n) + b = omega (arith, h) in
      let others : b - (n - a) ≡ b = omega (arith, h) in
      rw (whole, first, second, ones, others, append_assoc, replicate-append-replicate)
  cut (inr h) =
      let whole : min n (a + b) ≡ a + min (n - a) b = omega (arith, h) in
      let first : min n a ≡ a = omega (arith, h) in
      let ones : a - n ≡ 0 = omega (arith, h) in
      let others : a + b - n ≡ b - (n - a) = omega (arith, h) in
      rw (whole, first, ones, others, append-nil, ← replicate-append-replicate, append_assoc)

  fed-add : fed n (a + b) ≡ fed n a ++ fed (n - a) b
  fed-add = cut (cases_lt n a)

-- the parts of an accepted block are accepted
module _ (a b : List Float) (h : ask (is_block_length (length (a ++ b))) 2 0 ≡ 0) where
  whole : ask (is_block_length (length a + length b)) 2 0 ≡ 0
  whole = rw length-append at h

  first : ask (is_block_length (length a)) 2 0 ≡ 0
  first = shorter (length a) (length a + length b) 0 (omega arith) whole

  second : ask (is_block_length (length b)) 2 0 ≡ 0
  second = shorter (length b) (length a + length b) 0 (omega arith) whole

pub any_block_length : AnyBlockLength
any_block_length t n a b h = rw (length-append, whole a b h, first a b h, second a b h, fed-add, scanned-append, scan-append)

pub any_block_lengths : InRows counted
any_block_lengths = in_rows counted (λ s a b h.
    let unused : s.1 - (length a + length b) ≡ s.1 - length a - length b = omega arith in
    rw (length-append, whole a b h, first a b h, second a b h, fed-add, scanned-append, scan-append, unused))
