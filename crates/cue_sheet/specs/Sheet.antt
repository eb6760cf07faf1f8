-- A cue sheet: its first line, the walk over the lines after it, the judgment, and the cues. Definitions only.
use Rattle.std.specs.Prelude.{ℕ, ◌+◌, ◌%◌, ◌^◌, ◌&&◌, List, [], ◌∷◌, drop, nat_le, cond, Option, Some, None, Result, Ok, Err}
use Rattle.text.specs.Read.{ended, body, field, has_fields, decimal, lines, first_line}
use Rattle.cue_sheet.specs.Answer.{number, Told, says, refused, ask_for}
use Rattle.cue_sheet.specs.Fields.{◌>>=◌}
use Rattle.cue_sheet.specs.CueLine.{read_cue}
use Rattle.cue_sheet.specs.declared.line.Strike.{Strike}
use Rattle.cue_sheet.specs.declared.Head.{Head}
use Rattle.cue_sheet.specs.declared.Accepted.{Accepted}
use Rattle.cue_sheet.specs.declared.walk.RefusedAt.{RefusedAt}
use Rattle.cue_sheet.specs.declared.line.Walk.{Walk}

-- ---- the first line, `rate,length`: a rate from 16000 to 96000, and a length from 0 to 16384

unfoldable pub head_of : List ℕ → List ℕ → Option Head
head_of rate length = do
  rate ← decimal 96000 rate
  length ← decimal 16384 length
  cond (nat_le 16000 rate) (Some (record { rate = rate; length = length })) None

unfoldable pub read_first_line : List ℕ → Option Head
read_first_line line = cond (ended line && has_fields 2 (body line)) (head_of (field 0 (body line)) (field 1 (body line))) None

-- ---- the walk over the lines after it

abbrev pub begin : Head → Walk
begin head = record { head = head; line = 2; cues = 0; least_start = 0 }

-- what a line says, or the number of its refusal
unfoldable pub on_told : {A : Type 0} {B : Type 0} → Told A → (ℕ → B) → (A → B) → B
on_told (says x) otherwise then = then x
on_told (refused n) otherwise then = otherwise n

-- what is no cue changes neither the count nor the least start
unfoldable pub next : Walk → List ℕ → Walk
next w line = record {
  head = w.head;
  line = (w.line + 1) % 2 ^ 32;
  cues = on_told (read_cue w line) (λ _. w.cues) λ _. w.cues + 1;
  least_start = on_told (read_cue w line) (λ _. w.least_start) λ s. s.start + 1;
}

-- ---- the judgment: what the first line says and the number of cues, or the number of the first question that is not passed and its line, counted from 1
pub data SheetAnswer : Type 0 where
  accepted : Head → ℕ → SheetAnswer
  refused_at : ℕ → ℕ → SheetAnswer

-- each case of the result
abbrev pub answer : Result Accepted RefusedAt → SheetAnswer
answer (Ok a) = accepted a.head a.cues
answer (Err e) = refused_at (number e.refusal) e.line

unfoldable pub judge_from : Walk → List (List ℕ) → SheetAnswer
unfolding on_told
judge_from w [] = accepted w.head w.cues
judge_from w (line ∷ lines) = on_told (read_cue w line) (λ n. refused_at n w.line) λ _. judge_from (next w line) lines

unfoldable pub judge : List ℕ → SheetAnswer
judge sheet =
    on_told (ask_for (read_first_line (first_line sheet)) 7) (λ n. refused_at n 1) λ head. judge_from (begin head) (drop 1 (lines sheet))

-- ---- the cues, in their order: of a refused sheet, those of the lines that pass

unfoldable pub strikes_from : Walk → List (List ℕ) → List Strike
strikes_from w [] = []
strikes_from w (line ∷ lines) = on_told (read_cue w line) (λ _ strikes. strikes) ◌∷◌ (strikes_from (next w line) lines)

unfoldable pub strikes : Head → List ℕ → List Strike
strikes head sheet = strikes_from (begin head) (drop 1 (lines sheet))
