-- The longest text that `draws` prints: it fits into the buffer, so it stands there whole.
use Prim.Native.Nat.{ℕ, zero, suc, ◌+◌, ◌*◌, ◌^◌, ◌≤◌, ◌<◌}
use native.Mathlib.Nat.{mod-lt}
use native.Mathlib.Omega.{arith}
use mathlib.Core.Path.{◌≡◌, sym, ◌∙◌}
use mathlib.Core.List.{List}
use lib.ListN.{length, length-append}
use lib.Ieee.{binary32, to_bits}
use Rattle.random.specs.Random.{get_word, get_float}
use Rattle.text.specs.Write.{refused, Written, Whole}
use Rattle.text.proofs.Written.{whole}
use Rattle.text.proofs.Digits.{pattern-length, decimal-length}
use Rattle.draw_request.specs.Requests.{read_request}
use Rattle.draw_request.specs.declared.Request.{Request}
use Rattle.std.specs.Prelude.{Option, Some, None}
use Rattle.draw_request.proofs.Requests.{accepted}
use Rattle.listing.specs.Draws.{row, rows, answer, text}

word_below : (state : ℕ) → (get_float state).word < 2 ^ 32
unfolding get_float get_word
word_below state = mod-lt (state * 1664525 + 1013904223) (omega arith)

row-length : (n state : ℕ) → n < 10000 → length (row n (get_float state)) ≤ 25
unfolding row
row-length n state h =
    simp length-append
    (omega (arith, decimal-length 3 n h, decimal-length 9 (get_float state).word (omega (arith, word_below state)), pattern-length (to_bits binary32 (get_float state).value)))

rows-length : (n state count : ℕ) → n + count ≤ 10000 → length (rows n state count) ≤ 25 * count
unfolding rows
rows-length n state zero h = omega arith
rows-length n state (suc count) h =
    simp length-append (omega (arith, row-length n state (omega arith), rows-length (suc n) (get_float state).word count (omega arith)))

text-length : (input : List ℕ) (q : Option Request) → read_request input ≡ q → length (answer q) ≤ 25015
unfolding answer refused
text-length input (Some r) e =
    let most = (accepted input r.state r.count e).most in
    simp length-append (omega (arith, rows-length 1 r.state r.count (omega arith)))
text-length input None e = simp length-append (omega (arith, decimal-length 0 8 (omega arith), decimal-length 0 1 (omega arith)))

pub listed : (input : List ℕ) {q : Option Request} → q ≡ read_request input → {r : Option Request} → q ≡ r → {out out' : List ℕ} {end : ℕ} → length out ≡ 25015
    → Written out 0 (answer r) end out' → Whole out (text input) end out'
unfolding text
listed input {q = q} read {r = r} same room w =
    let known = sym read ∙ same in
    rw known (whole w (omega (arith, text-length input r known)))
