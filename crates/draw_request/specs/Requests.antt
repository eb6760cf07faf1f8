-- What the input of `draws` asks for. Definitions only.
use Rattle.std.specs.Prelude.{ℕ, cond, List, Option, Some, None}
use Rattle.text.specs.Read.{ended, body, field, has_fields, decimal}
use Rattle.draw_request.specs.declared.Request.{Request}

-- a state and a count, if both could be read
unfoldable pub both : Option ℕ → Option ℕ → Option Request
both (Some state) (Some count) = Some (record { state = state; count = count })
both (Some state) None = None
both None count = None

-- two decimals in two fields: a state below 2^32, and a count from 0 to 1000
unfoldable pub read_line : List ℕ → Option Request
read_line line = cond (has_fields 2 line) (both (decimal 4294967295 (field 0 line)) (decimal 1000 (field 1 line))) None

-- a line and its end
unfoldable pub read_request : List ℕ → Option Request
read_request input = cond (ended input) (read_line (body input)) None
