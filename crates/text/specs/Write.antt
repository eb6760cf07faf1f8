-- Numbers as text, and text put into a buffer. Definitions only.
use Rattle.std.specs.Prelude.{ℕ, zero, suc, ◌+◌, ◌-◌, ◌/◌, ◌%◌, ◌^◌, min, ◌≡◌, Bool, true, false, List, [], ◌∷◌, ◌++◌, ltb, length, drop, get_or}
use Prim.Native.Char.{code}
use Prim.Native.String.{String, [] as []ˢ, ◌∷◌ as ◌∷ˢ◌}
use Rattle.std.proofs.lemmas.List.Edits.{sets}

-- the bytes of an ASCII text
abbrev pub ascii : String → List ℕ
ascii []ˢ = []
ascii (c ∷ˢ s) = code c ∷ ascii s

-- ---- numbers

-- the last hexadecimal digit of n
abbrev pub digit : ℕ → ℕ
digit n = get_or (ascii "0123456789abcdef") (n % 16) 0

-- n in decimal, by at most `steps` divisions; `one` says whether n has one digit.
-- (It is an argument to match on: a recursive call under a `cond` is worked out whether or not it is taken.)
unfoldable pub decimal_within : ℕ → Bool → ℕ → List ℕ
decimal_within zero one n = digit n ∷ []
decimal_within (suc steps) true n = digit n ∷ []
decimal_within (suc steps) false n = decimal_within steps (ltb (n / 10) 10) (n / 10) ++ digit (n % 10) ∷ []

-- n in decimal: all its digits, and no zero in front; n divisions are always enough
unfoldable pub decimal : ℕ → List ℕ
decimal n = decimal_within n (ltb n 10) n

-- a pattern of 32 bits: eight hexadecimal digits
unfoldable pub pattern : ℕ → List ℕ
pattern n =
    digit (n / 2 ^ 28) ∷ digit (n / 2 ^ 24) ∷ digit (n / 2 ^ 20) ∷ digit (n / 2 ^ 16)
    ∷ digit (n / 2 ^ 12) ∷ digit (n / 2 ^ 8) ∷ digit (n / 2 ^ 4) ∷ digit n ∷ []

-- ---- a refused input

-- the refusal's number, and the line of the input
unfoldable pub refused : ℕ → ℕ → List ℕ
refused number line = ascii "refused," ++ decimal number ++ ascii "," ++ decimal line ++ ascii "\n"

-- ---- a buffer

-- `text` written into `out` from place `at` on gives `out'`: its bytes are stored one after the other, and those past the end of `out` are dropped.
-- `end` is the place after the last byte stored, or `at` where none is.
pub record Written (out : List ℕ) (at : ℕ) (text : List ℕ) (end : ℕ) (out' : List ℕ) : Type 0 where
  pub contents : out' ≡ sets out at text
  pub place : end ≡ at + min (length text) (length out - at)

-- all of `text` stands at the start of `out'`, up to `end`, and after it what stood there in `out`
pub record Whole (out text : List ℕ) (end : ℕ) (out' : List ℕ) : Type 0 where
  pub contents : out' ≡ text ++ drop end out
  pub place : end ≡ length text
