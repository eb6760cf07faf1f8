-- Texts written one after the other are one text.
use Prim.Native.Nat.{ℕ, suc, ◌+◌, ◌-◌, ◌≤◌, min}
use native.Mathlib.Nat.{zero-add, add-zero, add-suc, suc-add}
use native.Mathlib.Omega.{arith}
use native.Mathlib.Decide.{dec_le}
use mathlib.Core.Path.{◌≡◌, refl, ap, ◌∙◌}
use mathlib.Core.List.{List, [], ◌∷◌, ◌++◌, append_assoc}
use lib.ListN.{length, set, length-append}
use lib.Seq.{sets, length-sets, sets-eq, set_out}
use Rattle.text.specs.Write.{Written, Whole}
use Rattle.text.specs.Writer.{Writes}
use Rattle.text.specs.declared.write.Writer.{Writer}

sets_append : (a b out : List ℕ) (at : ℕ) → sets out at (a ++ b) ≡ sets (sets out at a) (at + length a) b
sets_append [] b out at = rw add-zero
sets_append (x ∷ a) b out at = rw (add-suc, ← suc-add) (sets_append a b (set out at x) (suc at))

-- past its end a buffer takes nothing
sets_past : (text out : List ℕ) (at : ℕ) → length out ≤ at → sets out at text ≡ out
sets_past [] out at h = refl
sets_past (x ∷ text) out at h = rw (set_out out at x h) (sets_past text out (suc at) (omega arith))

-- n places on, or where the buffer ends: the same is written
sets_from : (text out : List ℕ) (at n : ℕ) → sets out (at + min n (length out - at)) text ≡ sets out (at + n) text
sets_from text out at n = go (dec_le (at + n) (length out))
  where
    go : Dec (at + n ≤ length out) → sets out (at + min n (length out - at)) text ≡ sets out (at + n) text
    go (yes h) = let e : at + min n (length out - at) ≡ at + n = omega arith in rw e
    go (no h) = rw (sets_past text out (at + n) (omega arith), sets_past text out (at + min n (length out - at)) (omega arith))

same_length : {out text out' : List ℕ} {at end : ℕ} → Written out at text end out' → length out' ≡ length out
same_length {out} {text} {out'} {at} w = ap length w.contents ∙ length-sets out at text

-- one after the other into a buffer
joined : {out out₁ out₂ a b : List ℕ} {at at₁ at₂ : ℕ}
    → Written out at a at₁ out₁ → Written out₁ at₁ b at₂ out₂ → Written out at (a ++ b) at₂ out₂
joined {out} {out₁} {out₂} {a} {b} {at} v w = record {
  contents = w.contents ∙ rw (v.contents, v.place, sets_append a b out at, ← length-sets out at a) (sets_from b (sets out at a) at (length a));
  place = omega (arith, v.place, w.place, same_length v, length-append a b);
}

-- a text that fits into a buffer from its start on stands there whole, and its end lies in the buffer
pub whole : {out text out' : List ℕ} {end : ℕ} → Written out 0 text end out' → length text ≤ length out → Whole out text end out'
whole {out} {text} {out'} {end} w fits =
    let stop : end ≡ length text = omega (arith, w.place) in
    record { contents = w.contents ∙ sets-eq text out 0 (omega arith) ∙ rw (zero-add, stop); place = stop }

pub end_inside : {out text out' : List ℕ} {end : ℕ} → Whole out text end out' → end ≤ length out'
end_inside w = rw w.contents (simp length-append (omega (arith, w.place)))

-- ---- a writer

-- before it writes
pub nothing : {w : Writer} → Writes w [] w
nothing = record { same_buffer = refl; written = record { contents = refl; place = omega arith } }

-- one after the other
pub then : {w w₁ w₂ : Writer} {a b : List ℕ} → Writes w a w₁ → Writes w₁ b w₂ → Writes w (a ++ b) w₂
then v w = record { same_buffer = w.same_buffer ∙ v.same_buffer; written = joined v.written w.written }

-- where the second text is of two parts
pub then-both : {w w₁ w₂ : Writer} {a : List ℕ} (b c : List ℕ) → Writes w a w₁ → Writes w₁ (b ++ c) w₂ → Writes w ((a ++ b) ++ c) w₂
then-both {a = a} b c v w = rw (append_assoc a b c) (then v w)
