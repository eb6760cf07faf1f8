-- Lines, fields and numbers read from text. Definitions only.
use Rattle.std.specs.Prelude.{ℕ, ◌+◌, ◌-◌, ◌*◌, Bool, true, false, not, cond, List, [], ◌∷◌, ltb, leb, eqb, length, get_or, take, drop, Option, Some, None, option_and_then, position}
use Prim.Native.Char.{code}
use Rattle.std.specs.List.{slice_split, onto_first, position_or_len}
use Rattle.text.specs.Write.{ascii}

-- ---- lines

-- a text whose last byte is a line end
unfoldable pub ended : List ℕ → Bool
ended text = eqb (get_or text (length text - 1) 0) (code "\n")

-- a text without its last byte
unfoldable pub body : List ℕ → List ℕ
body text = take (length text - 1) text

-- the lines of a text, each with its line end, which the last may lack
unfoldable pub lines : List ℕ → List (List ℕ)
lines [] = []
lines (x ∷ xs) = cond (eqb x (code "\n")) ((x ∷ []) ∷ lines xs) (onto_first x (lines xs))

-- the first of them; empty where there is none
unfoldable pub first_line : List ℕ → List ℕ
first_line text = get_or (lines text) 0 []

-- the line that starts at a place of a text; empty at its end
unfoldable pub line_at : ℕ → List ℕ → List ℕ
line_at at text = first_line (drop at text)

-- ---- fields

-- the fields of a line: what stands between its commas, one more than there are commas
unfoldable pub fields : List ℕ → List (List ℕ)
fields line = slice_split (λ x. eqb x (code ",")) line

-- field k of a line, counted from 0
unfoldable pub field : ℕ → List ℕ → List ℕ
field k line = get_or (fields line) k []

-- the end of the field that starts at a place of a line: the place of the next comma, or the line's end
abbrev pub field_end : ℕ → List ℕ → ℕ
field_end at line = at + position_or_len (λ x. eqb x (code ",")) (drop at line)

-- exactly n fields
abbrev pub has_fields : ℕ → List ℕ → Bool
has_fields n line = eqb (length (fields line)) n

-- ---- numbers

-- the sixteen digits
abbrev pub digits : List ℕ
digits = ascii "0123456789abcdef"

-- what a digit stands for: its place among the sixteen
unfoldable pub digit : ℕ → Option ℕ
digit b = position (λ d. eqb d b) digits

-- the number that digits in a base stand for, read on from n
unfoldable pub numeral : ℕ → ℕ → List ℕ → Option ℕ
numeral base n [] = Some n
numeral base n (d ∷ ds) = option_and_then (λ k. cond (ltb k base) (numeral base (n * base + k) ds) None) (digit d)

-- a number, if it is at most `limit`
unfoldable pub up_to : ℕ → Option ℕ → Option ℕ
up_to limit number = option_and_then (λ n. cond (leb n limit) (Some n) None) number

-- some digits, and no zero in front of others
unfoldable pub well_formed : List ℕ → Bool
well_formed [] = false
well_formed (d ∷ []) = true
well_formed (d ∷ e ∷ ds) = not (eqb d (code "0"))

-- a decimal number from 0 to `limit`
unfoldable pub decimal : ℕ → List ℕ → Option ℕ
decimal limit text = cond (well_formed text) (up_to limit (numeral 10 0 text)) None

-- a pattern of 32 bits: eight hexadecimal digits
unfoldable pub pattern : List ℕ → Option ℕ
pattern text = cond (eqb (length text) 8) (numeral 16 0 text) None
