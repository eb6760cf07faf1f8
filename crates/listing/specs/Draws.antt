-- What the program `draws` prints for its input. Definitions only.
use Rattle.std.specs.Prelude.{ℕ, zero, suc, List, [], ◌++◌, Option, Some, None}
use Rattle.std.specs.Float.{binary32}
use Rattle.std.specs.Float.Ieee.{to_bits}
use Rattle.random.specs.Random.{get_float}
use Rattle.random.specs.declared.Draw.{Draw}
use Rattle.text.specs.Write as Write
use Rattle.text.specs.Write.{ascii}
use Rattle.draw_request.specs.Requests.{read_request}
use Rattle.draw_request.specs.declared.Request.{Request}

-- the draw's number, the word drawn, and the pattern of its float
unfoldable pub row : ℕ → Draw → List ℕ
row n draw = Write.decimal n ++ ascii "," ++ Write.decimal draw.word ++ ascii "," ++ Write.pattern (to_bits binary32 draw.value) ++ ascii "\n"

-- the rows of `count` draws from a state, the first of which has the number n; each word is the next state
unfoldable pub rows : ℕ → ℕ → ℕ → List ℕ
rows n state zero = []
rows n state (suc count) = row n (get_float state) ++ rows (suc n) (get_float state).word count

unfoldable pub answer : Option Request → List ℕ
answer (Some r) = ascii "draw,word,bits\n" ++ rows 1 r.state r.count
answer None = Write.refused 8 1

unfoldable pub text : List ℕ → List ℕ
text input = answer (read_request input)
